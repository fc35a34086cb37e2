use Rattle.std.proofs.Common.{◌∙◌, arith}
use Rattle.ripemd_batch.proofs.Placing.{put_next, put_no_more}
use Rattle.ripemd_batch.proofs.lists.ListHasher.put_lanes.Goals as goal
use Rattle.ripemd_batch.proofs.lists.ListHasher.put_lanes.Goals.{then-j-messages, else-j-messages}

pub loop-j-preserved : goal.loop-j-preserved
loop-j-preserved g c = elim c.if-j-messages.branch [
  | then-j-messages w ↦
      let made = c.walk_messages-states.ensures c.loop-j.j (omega (arith, c.requires.few)) (omega arith) in
      rw w.places-is (put_next _ _ _ _ c.requires.room (omega arith) (w.digest_of-output.ensures ∙ rw (← c.self.view_is) made) w.put.ensures c.loop-j.invariant)
  | else-j-messages w ↦
      rw w.places-is (put_no_more _ _ _ _ (omega arith) c.loop-j.invariant)
]
