use Rattle.rmdsum.proofs.Deeds.{Begins}
use Rattle.rmdsum.proofs.worker.do_all.Given as goal

abbrev pub invariant-loop : goal.invariant-loop
invariant-loop g l = Begins l.work (g.W.Worker.done l.initial.worker) (g.W.Worker.done l.worker) l.success
