use Rattle.std.proofs.Common.{arith}
use Rattle.ripemd_batch.proofs.Placing.{put_next}
use Rattle.ripemd_batch.proofs.lists.ListHasher.put_one_by_one.Goals as goal

pub loop-j-preserved : goal.loop-j-preserved
loop-j-preserved g c =
    put_next _ _ _ _ c.requires.room (omega arith) (rw c.message_at.ensures at c.hash_one-output.ensures) c.put.ensures c.loop-j.invariant
