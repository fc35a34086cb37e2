use Rattle.std.proofs.Common.{rules, map, vec_items}
use Rattle.rmdsum.proofs.Deeds.{one_round, ended, something}
use Rattle.rmdsum.proofs.worker.do_all.Goals as goal

pub loop-preserved : goal.loop-preserved
loop-preserved g c =
    one_round c.args.work (g.W.Worker.done c.args.worker.now) (g.W.Worker.done c.loop.worker) (g.W.Worker.done c.next.new.self)
    (g.W.Worker.done c.do_some.new.worker) (g.W.Worker.done c.tell.new.self) (map vec_items c.in_ok-batch.batch.names.items)
    c.in_ok-batch.batch.wrong c.loop.success c.in_ok-handled.handled c.in_ok-sound.sound (something _ _ (search rules)) c.loop.invariant (search rules)
    (search (rules, c.as_slice.ensures.value)) (search rules) (search rules)

pub returns-then-is_none : goal.returns-then-is_none
returns-then-is_none g c =
    ended c.args.work (g.W.Worker.done c.args.worker.now) (g.W.Worker.done c.loop.worker) (g.W.Worker.done c.next.new.self)
    c.in_ok-batch.batch.names.items c.in_ok-batch.batch.wrong c.loop.success (search rules) (search rules) c.loop.invariant (search rules)
