use Rattle.std.proofs.Common.{rules, ◌≡◌, [], ◌∷◌, ◌++◌, ◌∙◌}
use Rattle.rmdsum.specs.Names.{left_in, IsEntry}
use Rattle.rmdsum.specs.Types.{Name}
use Rattle.rmdsum.proofs.Entries.{named}
use Rattle.rmdsum.proofs.names.Names.next.Goals as goal

pub loop-preserved : goal.loop-preserved
loop-preserved g c =
    let pushed : c.push.new.self.items ≡ c.loop.names.items ++ c.in-Name.name ∷ [] = search rules in
    let next : IsEntry c.loop.self.file.items c.loop.self.number c.read_name.new.self.number (left_in g.R.Read.remaining c.loop.self.reader) (left_in g.R.Read.remaining c.read_name.new.self.reader) (Name c.in-Name.name) =
    search rules in
    let same = c.loop.invariant.3 in
    rw pushed (
      rw next.2 (named _ _ _ _ _ _ _ c.loop.names.items c.in-Name.name c.loop.invariant.0 next.0 (rw same at next.1)),
      search rules,
      search (rules, c.read_name.ensures.given),
      c.read_name.ensures.file ∙ same,
    )
