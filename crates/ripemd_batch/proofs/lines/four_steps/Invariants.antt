-- The registers are those after the steps so far.
use Rattle.std.proofs.Common.{◌≡◌, ℕ, ◌+◌, ◌<◌, List, map}
use Rattle.ripemd_block.specs.Standard.{registers_after}
use Rattle.ripemd_batch.specs.Lanes.{line_of, HasWords}
use Rattle.ripemd_batch.proofs.lines.four_steps.Given as goal

abbrev pub invariant-loop-i : goal.invariant-loop-i
invariant-loop-i g l = (j : ℕ) → j < g.R.Vector.Lanes.COUNT → (block first : List ℕ) → HasWords (map g.R.Vector.Lanes.words l.words) j block
    → g.R.VectorRegisters.lane j l.fn.start ≡ registers_after (line_of g.R.VectorRegisters.ROUNDS l.side) block l.r l.from first
    → g.R.VectorRegisters.lane j l.registers ≡ registers_after (line_of g.R.VectorRegisters.ROUNDS l.side) block l.r (l.from + l.i) first
