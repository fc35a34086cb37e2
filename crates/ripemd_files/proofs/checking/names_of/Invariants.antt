use Rattle.ripemd_block.proofs.Library.{take, AllZip}
use Rattle.ripemd_batch.specs.Lanes.{targets}
use Rattle.ripemd_files.specs.Checking.{IsNamed}
use Rattle.ripemd_files.proofs.checking.names_of.Given as goal

abbrev pub invariant-loop-line : goal.invariant-loop-line
invariant-loop-line l = AllZip (IsNamed l.variant) (take l.line-index l.lines) (targets l.names.items)
