use Rattle.std.proofs.Common.{take, true}
use Rattle.ripemd_batch.specs.Lanes.{targets}
use Rattle.ripemd_files.specs.Printing.{AllRead, IsReading, items_of_reading}
use Rattle.ripemd_files.proofs.InTurn.{TellsSoFar}
use Rattle.ripemd_files.proofs.printing.print_outcomes.Given as goal

abbrev pub invariant-loop-k : goal.invariant-loop-k
invariant-loop-k g l =
    TellsSoFar (IsReading (g.F.Folder.place l._folder) l.style) (items_of_reading l.style) AllRead (take l.k (targets l.names))
    (g.L.Log.told l.initial.log) (g.L.Log.told l.log) l.lines.items true l.all
