-- The lines are those after the rounds so far.
use Rattle.std.proofs.Common.{◌≡◌}
use Rattle.ripemd_block.specs.Standard.{Parameters, lines_after}
use Rattle.ripemd_block.specs.Code.{both_lines}
use Rattle.ripemd_block.proofs.two_lanes.lines_after.Given as goal

abbrev pub invariant-loop-r : goal.invariant-loop-r
invariant-loop-r g l = let lane = g.R.TwoLaneRegisters.lane in (v : Parameters) → v.rounds ≡ g.R.TwoLaneRegisters.ROUNDS → v.exchanges ≡ l.exchanges
    → both_lines (lane l.registers 0) (lane l.registers 1)
    ≡ lines_after v l.block l.r (both_lines (lane l.fn.start 0) (lane l.fn.start 1))
