use Rattle.std.proofs.Common.{arith}
use Rattle.ripemd_batch.proofs.Placing.{put_part}
use Rattle.ripemd_batch.proofs.lists.ListHasher.put_groups.Goals as goal

pub loop-g-preserved : goal.loop-g-preserved
loop-g-preserved g c =
    put_part _ _ _ _ 8 c.group_end-end.result (omega arith) (omega arith) (omega arith) c.put_group.ensures c.loop-g.invariant
