use Rattle.std.proofs.Common.{take}
use Rattle.ripemd_files.specs.Checking.{Counts, IsEventOf, items_of_event}
use Rattle.ripemd_files.proofs.InTurn.{TellsSoFar}
use Rattle.ripemd_files.proofs.checking.check_outcomes.Given as goal

abbrev pub invariant-loop-k : goal.invariant-loop-k
invariant-loop-k g l =
    TellsSoFar (IsEventOf (g.F.Folder.place l._folder) l.options.ignore_missing) (items_of_event l.options) Counts (take l.k l.lines)
    (g.L.Log.told l.initial.log) (g.L.Log.told l.log) l.report.items l.initial.tally l.tally
