-- The state is that after the blocks so far.
use Rattle.std.proofs.Common.{◌≡◌, take}
use Rattle.ripemd_block.specs.Standard.{padded_message, blocks, walk}
use Rattle.ripemd.proofs.witness.state_at.Given as goal

abbrev pub invariant-loop-i : goal.invariant-loop-i
invariant-loop-i g l =
    let f = g.F.BlockFunction in
    record {
      state : l.state ≡ walk f.step_of f.start_of (take l.i (blocks (padded_message l.message)));
      valid : f.is_state l.state;
    }
