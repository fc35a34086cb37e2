use Rattle.std.proofs.Common.{refl, ◌∙◌, arith}
use Rattle.ripemd_block.specs.Standard.{ripemd160}
use Rattle.ripemd_block.proofs.Stepping.{lines_of_whole}
use Rattle.ripemd_block.proofs.TwoLanes.{compress_in_lanes}
use Rattle.ripemd_block.proofs.c160.compress.Goals as goal

pub returns-clause-state : goal.returns-clause-state
returns-clause-state c =
    let start = c.lanes_of_five-start in
    let end = c.lines_after-end in
    c.joint_state_of_five.ensures
    ∙ compress_in_lanes ripemd160 c.args.block.now start.result end.result (lines_of_whole ripemd160 c.args.state.now (omega arith))
    start.ensures.left start.ensures.right (end.ensures ripemd160 refl refl) c.lane_of_five.ensures
    c.lane_of_five-2.ensures
