use Rattle.std.proofs.Common.{refl, ◌∙◌}
use Rattle.ripemd_block.specs.Standard.{ripemd256}
use Rattle.ripemd_block.proofs.TwoLanes.{compress_in_lanes}
use Rattle.ripemd_block.proofs.c256.compress.Goals as goal

pub returns-clause-state : goal.returns-clause-state
returns-clause-state c =
    let start = c.lanes_of_four-start in
    let end = c.lines_after-end in
    c.double_state_of_four.ensures
    ∙ compress_in_lanes ripemd256 c.args.block.now start.result end.result c.lines_of_256.ensures
    start.ensures.left start.ensures.right (end.ensures ripemd256 refl refl) c.lane_of_four.ensures
    c.lane_of_four-2.ensures
