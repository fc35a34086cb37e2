use Rattle.std.proofs.Common.{◌<◌, [], refl, arith}
use Rattle.ripemd_block.proofs.Tables.{elements}
use Rattle.ripemd_block.proofs.TwoLanes.{each_lane}
use Rattle.ripemd_block.proofs.two_lanes.ArrayU32x24TwoLaneRegisters.step.Goals as goal

pub returns : goal.returns
returns c =
    let in_left : 0 < 2 = omega arith in
    let in_right : 1 < 2 = omega arith in
    rw (elements 4 [] c.args.self (omega arith))
    (each_lane _
    (rw (c.rotate-t.ensures 0 in_left, c.sum-3.ensures 0 in_left, c.sum-2.ensures 0 in_left, c.sum.ensures 0 in_left, c.functions.ensures.left) refl)
    (rw (c.rotate-t.ensures 1 in_right, c.sum-3.ensures 1 in_right, c.sum-2.ensures 1 in_right, c.sum.ensures 1 in_right, c.functions.ensures.right) refl))
