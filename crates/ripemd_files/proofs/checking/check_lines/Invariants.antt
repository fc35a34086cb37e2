use Rattle.std.proofs.Common.{◌-◌, ◌≤◌, length, take}
use Rattle.ripemd_files.specs.Groups.{ChecksLines}
use Rattle.ripemd_files.proofs.checking.check_lines.Given as goal

abbrev pub invariant-loop-start : goal.invariant-loop-start
invariant-loop-start g l = record {
  checked : ChecksLines (g.F.Folder.place l.folder) l.options (take l.start l.lines) (g.L.Log.told l.initial.log) (g.L.Log.told l.log)
      l.initial.tally l.tally;
  within : l.start ≤ length l.lines;
}

abbrev pub decreases-loop-start : goal.decreases-loop-start
decreases-loop-start g l = length l.lines - l.start
