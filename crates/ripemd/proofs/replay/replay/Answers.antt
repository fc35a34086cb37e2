use Rattle.ripemd_block.proofs.Library.{get_or, take_more}
use Rattle.ripemd.specs.Types.{New}
use Rattle.ripemd.proofs.Replaying.{runs_more}
use Rattle.ripemd.proofs.replay.replay.Goals as goal

pub loop-at-preserved : goal.loop-at-preserved
loop-at-preserved g c =
    let step = c.in-Ok.ensures c.loop-at.invariant.0 c.loop-at.invariant.2 in
    let here = c.loop-at-test.true in
    let runs = runs_more _ _ _ _ _ _ (get_or c.args.commands.now c.loop-at.at New) _ _ _ c.loop-at.invariant.1 step.1 in
    (step.0, rw (take_more c.args.commands.now c.loop-at.at New) runs, step.2)
