use Rattle.ripemd_block.proofs.Library.{◌≡◌, ℕ, ◌<◌, List, [], ◌∷◌, length, arith, ◌∙◌, lt-leb, le-leb}
use Rattle.ripemd_block.specs.Standard.{blocks}
use Rattle.ripemd_batch.specs.Lanes.{targets, list_at, padded_after}
use Rattle.ripemd_batch.proofs.EightLanes.{below_eight}
use Rattle.ripemd_batch.proofs.Turns.{turns_of, turn_on, all_turned}
use Rattle.ripemd_batch.proofs.groups.walk_messages.Goals as goal

pub loop-i-preserved : goal.loop-i-preserved
loop-i-preserved g c = record {
  turns = c.loop-i.invariant.turns;
  turned = λ j h.
      let lane : j < 8 = omega (arith, h, g.met.S.Vector.Lanes.few) in
      let most : ℕ = c.most-most.result in
      let inside : c.loop-i.i < turns_of c.args.outer most = rw (← c.loop-i.invariant.turns) c.loop-i-test.true in
      let next = c.next_states-next.ensures in
      turn_on _ _ _ _ _ most c.args.outer c.args.first c.unwrap_or-second.result c.loop-i.i _ _
      (omega (arith, c.block_counts-counts.ensures.value j lane, c.most-most.ensures.most j lane))
      inside c.unwrap_or-second.ensures (λ here. next.taken (lt-leb most c.loop-i.i here) j h)
      (λ here. next.kept (lt-leb most c.loop-i.i here) j h) (λ end. next.again (le-leb most c.loop-i.i end) j h)
      (c.loop-i.invariant.turned j h);
}

pub returns : goal.returns
returns g c j h within =
    let lane : j < 8 = omega (arith, h, g.met.S.Vector.Lanes.few) in
    let all : List (List ℕ) = targets c.args.messages.now in
    let own : List (List (List ℕ)) = c.blocks_of_message.result ∷ c.blocks_of_message-2.result ∷ c.blocks_of_message-3.result
    ∷ c.blocks_of_message-4.result ∷ c.blocks_of_message-5.result ∷ c.blocks_of_message-6.result ∷ c.blocks_of_message-7.result
    ∷ c.blocks_of_message-8.result ∷ [] in
    let blocks_are : list_at own j ≡ blocks (padded_after c.args.before (list_at all j)) =
    below_eight (λ i. i < length c.args.messages.now → list_at own i ≡ blocks (padded_after c.args.before (list_at all i)))
    c.blocks_of_message.ensures c.blocks_of_message-2.ensures c.blocks_of_message-3.ensures c.blocks_of_message-4.ensures
    c.blocks_of_message-5.ensures c.blocks_of_message-6.ensures c.blocks_of_message-7.ensures c.blocks_of_message-8.ensures
    j lane within in
    let done : c.loop-i.i ≡ c.if-is_some.turns = omega (arith, c.loop-i-test.false, c.loop-i.auto.i-end) in
    all_turned _ _ _ _ _ _ c.args.outer c.args.before c.loop-i.i _ (list_at all j)
    (omega (arith, c.block_counts-counts.ensures.value j lane, c.most-most.ensures.most j lane))
    (done ∙ c.loop-i.invariant.turns) blocks_are (c.loop-i.invariant.turned j h)
