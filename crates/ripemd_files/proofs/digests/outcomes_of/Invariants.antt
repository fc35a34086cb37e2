use Rattle.std.specs.List.{AllZip}
use Rattle.ripemd_block.specs.Standard.{hash}
use Rattle.ripemd_files.specs.Files.{Follows}
use Rattle.ripemd_files.proofs.digests.outcomes_of.Given as goal

abbrev pub invariant-loop-content : goal.invariant-loop-content
invariant-loop-content g l = AllZip (Follows (hash g.D.Digest.start g.D.Digest.step g.D.Digest.output)) l.yielded l.outcomes.items
