use Rattle.std.proofs.Common.{◌≡◌, ◌<◌, refl, arith, rules}
use Rattle.ripemd_block.specs.Standard.{left_line, right_line, registers_after}
use Rattle.ripemd_block.proofs.Stepping.{word_of_step, one_more_step}
use Rattle.ripemd_block.proofs.TwoLanes.{each_lane}
use Rattle.ripemd_block.proofs.two_lanes.round.Goals as goal

pub step-next-requires-clause-amounts : goal.step-next-requires-clause-amounts
step-next-requires-clause-amounts g c = each_lane _ c.rotation.ensures.range c.rotation-in-loop-i.ensures.range

pub loop-i-init : goal.loop-i-init
unfolding registers_after
loop-i-init g c block words j small = refl

pub loop-i-preserved : goal.loop-i-preserved
loop-i-preserved g c block words =
    let rounds = g.R.TwoLaneRegisters.ROUNDS in
    let r = c.args.r in
    let i = c.loop-i.i in
    let left = c.left_number-left.ensures in
    let right = c.right_number-right.ensures in
    let in_left : 0 < 2 = omega arith in
    let in_right : 1 < 2 = omega arith in
    each_lane _
    (one_more_step left_line block r i _ _ _ _ _ _ _ left.value (word_of_step block _ _ _ words left.small refl)
    c.left_constant.ensures c.rotation.ensures.value (c.loop-i.invariant block words 0 in_left)
    (c.step-next.ensures 0 in_left))
    (one_more_step (right_line rounds) block r i _ _ _ _ _ _ _ (right.value rounds) (word_of_step block _ _ _ words right.small refl)
    (search (rules, c.right_constant.ensures)) c.rotation-in-loop-i.ensures.value (c.loop-i.invariant block words 1 in_right)
    (c.step-next.ensures 1 in_right))

pub returns : goal.returns
returns g c = let ended : c.loop-i.i ≡ 16 = omega arith in rw ended at c.loop-i.invariant
