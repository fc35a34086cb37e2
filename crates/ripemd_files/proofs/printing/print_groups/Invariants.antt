use Rattle.std.proofs.Common.{◌-◌, ◌≤◌, length, take}
use Rattle.ripemd_batch.specs.Lanes.{targets}
use Rattle.ripemd_files.specs.Printing.{PrintsAll}
use Rattle.ripemd_files.proofs.printing.print_groups.Given as goal

abbrev pub invariant-loop-start : goal.invariant-loop-start
invariant-loop-start g l = record {
  printed : PrintsAll (g.F.Folder.place l.folder) l.style (take l.start (targets l.names)) (g.L.Log.told l.initial.log) (g.L.Log.told l.log) l.all;
  within : l.start ≤ length l.names;
}

abbrev pub decreases-loop-start : goal.decreases-loop-start
decreases-loop-start g l = length l.names - l.start
