-- The states are those after the blocks so far, and the last difference is that of the pairs so far.
use Rattle.std.proofs.Common.{◌≡◌, ◌+◌, take}
use Rattle.ripemd_block.specs.Standard.{padded_message, blocks, walk}
use Rattle.ripemd.proofs.LastDifference.{HasFound}
use Rattle.ripemd.proofs.witness.collision_witness.Given as goal

abbrev pub invariant-loop-i : goal.invariant-loop-i
invariant-loop-i g l =
    let f = g.F.BlockFunction in
    let xs = blocks (padded_message l.a) in
    let ys = blocks (padded_message l.b) in
    record {
      left : l.left_state ≡ walk f.step_of f.start_of (take (l.left_ahead + l.i) xs);
      right : l.right_state ≡ walk f.step_of f.start_of (take (l.right_ahead + l.i) ys);
      left_valid : f.is_state l.left_state;
      right_valid : f.is_state l.right_state;
      found : HasFound f.start_of f.step_of xs ys l.left_ahead l.right_ahead l.i l.last_difference;
    }
