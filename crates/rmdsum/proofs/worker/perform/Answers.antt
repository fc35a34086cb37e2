use Rattle.std.proofs.Common.{rules}
use Rattle.rmdsum.proofs.Deeds.{opened}
use Rattle.rmdsum.proofs.worker.perform.Goals as goal

pub returns-in_ok-do_all-in-Run : goal.returns-in_ok-do_all-in-Run
returns-in_ok-do_all-in-Run g c =
    rw c.in-Run.is (opened c.in-Run.work c.in-Run.names c.in-Run.progress (g.W.Worker.done c.args.worker.now) (g.W.Worker.done c.open.new.self)
    (g.W.Worker.done c.do_all.new.worker) c.in_ok-do_all-in-Run.field-0 (search rules) (search rules))
