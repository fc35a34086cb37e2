use Rattle.std.proofs.Common.{refl, ◌∙◌}
use Rattle.ripemd_block.specs.Standard.{ripemd320}
use Rattle.ripemd_block.proofs.TwoLanes.{compress_in_lanes}
use Rattle.ripemd_block.proofs.c320.compress.Goals as goal

pub returns-clause-state : goal.returns-clause-state
returns-clause-state c =
    let start = c.lanes_of_five-start in
    let end = c.lines_after-end in
    c.double_state_of_five.ensures
    ∙ compress_in_lanes ripemd320 c.args.block.now start.result end.result c.lines_of_320.ensures
    start.ensures.left start.ensures.right (end.ensures ripemd320 refl refl) c.lane_of_five.ensures
    c.lane_of_five-2.ensures
