-- The registers are those after the steps so far.
use Rattle.std.proofs.Common.{◌≡◌, ℕ, ◌+◌, List}
use Rattle.ripemd_block.specs.Standard.{left_line, right_line, registers_after}
use Rattle.ripemd_block.specs.Code.{HasWords}
use Rattle.ripemd_block.proofs.registers.lines.four_steps.Given as goal

abbrev pub invariant-loop-i : goal.invariant-loop-i
invariant-loop-i g l = record {
  left : (block first : List ℕ) → HasWords g.row.N l.words.left l.words.right block
      → g.R.LineRegisters.list l.fn.start.left ≡ registers_after left_line block l.r l.from first
      → g.R.LineRegisters.list l.lines.left ≡ registers_after left_line block l.r (l.from + l.i) first;
  right : (block first : List ℕ) → HasWords g.row.N l.words.left l.words.right block
      → g.R.LineRegisters.list l.fn.start.right ≡ registers_after (right_line g.row.N) block l.r l.from first
      → g.R.LineRegisters.list l.lines.right ≡ registers_after (right_line g.row.N) block l.r (l.from + l.i) first;
}
