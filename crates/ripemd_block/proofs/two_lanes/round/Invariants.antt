-- In each lane the registers are those after the steps so far.
use Rattle.std.proofs.Common.{◌≡◌, ◌<◌, ℕ, List}
use Rattle.ripemd_block.specs.Standard.{registers_after}
use Rattle.ripemd_block.specs.Code.{message_words, line_of_lane}
use Rattle.ripemd_block.proofs.two_lanes.round.Given as goal

abbrev pub invariant-loop-i : goal.invariant-loop-i
invariant-loop-i g l = (block : List ℕ) → l.words ≡ message_words block → (j : ℕ) → j < 2
    → g.R.TwoLaneRegisters.lane l.registers j
    ≡ registers_after (line_of_lane g.R.TwoLaneRegisters.ROUNDS j) block l.r l.i (g.R.TwoLaneRegisters.lane l.fn.start j)
