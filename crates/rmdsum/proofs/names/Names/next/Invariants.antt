use Rattle.std.proofs.Common.{◌≡◌, ◌≤◌, [], length, map, vec_items}
use Rattle.rmdsum.specs.Names.{left_in}
use Rattle.rmdsum.proofs.Entries.{SoFar}
use Rattle.rmdsum.proofs.names.Names.next.Given as goal

abbrev pub invariant-loop : goal.invariant-loop
invariant-loop g l =
    SoFar l.fn.self.file.items l.fn.self.number l.self.number (left_in g.R.Read.remaining l.fn.self.reader) (left_in g.R.Read.remaining l.self.reader)
    (map vec_items l.fn.self.given.items) (map vec_items l.names.items)
    × (l.counter ≤ length l.names.items) × (l.self.given.items ≡ []) × (l.self.file ≡ l.fn.self.file)
