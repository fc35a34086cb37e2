use Rattle.std.proofs.Common.{rules, sym}
use Rattle.rmdsum.proofs.Deeds.{one_list}
use Rattle.rmdsum.proofs.worker.check_lists.Goals as goal

pub loop-name-preserved : goal.loop-name-preserved
loop-name-preserved g c =
    one_list c.args.only c.args.options _ _ _ c.args.names.now c.loop-name.name-index c.name-item.result c.as_slice.result.now
    c.rules_of-rules.result c.loop-name.success c.in_ok-checked.checked (search rules) c.loop-name-test.true (sym c.name-item.is) (search (rules, c.as_slice.ensures.value))
    c.loop-name.invariant (search rules)
