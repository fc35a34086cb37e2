-- The state is that after the blocks so far.
use Rattle.std.proofs.Common.{◌≡◌, take}
use Rattle.ripemd_block.specs.Standard.{walk}
use Rattle.ripemd_block.proofs.registers.walk_in_registers.Given as goal

abbrev pub invariant-loop-block : goal.invariant-loop-block
invariant-loop-block g l = let f = g.F.BlockFunction in record {
  walk : l.state ≡ walk f.step_of l.fn.first (take l.block-index l.blocks);
  valid : f.is_state l.fn.first → f.is_state l.state;
}
