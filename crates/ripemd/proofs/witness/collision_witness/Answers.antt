use Rattle.ripemd_block.proofs.Library.{◌≡◌, ◌≢◌, ◌+◌, ◌-◌, length, inr, refl, arith, sym, ap, ◌∙◌, false≢true}
use Rattle.ripemd_block.specs.Standard.{padded_message, blocks, hash}
use Rattle.ripemd.proofs.LastDifference.{state_met, state_at_end, found_before, found_now, one_end, none_found, some_found, only_found}
use Rattle.ripemd.proofs.witness.collision_witness.Goals as goal
use Rattle.ripemd.proofs.witness.collision_witness.Goals.{then-not-same_pair, else-not-same_pair}

pub loop-i-preserved : goal.loop-i-preserved
loop-i-preserved g c =
    let j = c.saturating_sub-left_ahead.result in
    let k = c.saturating_sub-right_ahead.result in
    let i = c.loop-i.i in
    let before = c.loop-i.invariant in
    let left = c.meet-left.ensures in
    let right = c.meet-right.ensures in
    record {
      left = state_met _ _ _ j i before.left left.state left.block c.step-left_state.ensures.value (omega arith);
      right = state_met _ _ _ k i before.right right.state right.block c.step-right_state.ensures.value (omega arith);
      left_valid = c.step-left_state.ensures.valid_new;
      right_valid = c.step-right_state.ensures.valid_new;
      found = elim c.if-not-same_pair.branch [
        | then-not-same_pair w ↦
            rw w.last_difference-is (found_now _ _ _ _ _ _ _ _ left.place right.place (cc) (cc)
            (λ same. false≢true (sym w.if-not-same_pair.true ∙ c.same_pair.ensures.1 same)))
        | else-not-same_pair w ↦
            let same = c.same_pair.ensures.0 w.if-not-same_pair.false in
            rw w.last_difference-is (found_before _ _ _ _ _ _ _ before.found (cc))
      ];
    }

pub returns-then-eq : goal.returns-then-eq
unfolding hash
returns-then-eq g c =
    let xs = blocks (padded_message c.args.a.now) in
    let ys = blocks (padded_message c.args.b.now) in
    let j = c.saturating_sub-left_ahead.result in
    let k = c.saturating_sub-right_ahead.result in
    let i = c.loop-i.i in
    let left : j ≡ length xs - length ys = omega arith in
    let right : k ≡ length ys - length xs = omega arith in
    let count : j + i ≡ length xs = omega arith in
    let left_end = state_at_end _ _ xs (j + i) c.loop-i.invariant.left (omega arith) in
    let right_end = state_at_end _ _ ys (k + i) c.loop-i.invariant.right (omega arith) in
    let same_end = sym left_end ∙ g.met.F.BlockFunction.same_state _ _ (sym c.eq.ensures ∙ c.if-eq.true) ∙ right_end in
    let found = c.loop-i.invariant.found in
    record {
      none = none_found _ _ _ _ _ _ _ left right count _ _ (ap g.F.BlockFunction.output_of same_end)
          c.requires.a_short c.requires.b_short _ found;
      some = some_found _ _ _ _ _ _ _ left right count same_end _ found;
      only = only_found _ _ _ _ _ _ _ left right count _ found;
    }

pub returns-else-eq : goal.returns-else-eq
unfolding hash
returns-else-eq g c =
    let xs = blocks (padded_message c.args.a.now) in
    let ys = blocks (padded_message c.args.b.now) in
    let j = c.saturating_sub-left_ahead.result in
    let k = c.saturating_sub-right_ahead.result in
    let i = c.loop-i.i in
    let left_end = state_at_end _ _ xs (j + i) c.loop-i.invariant.left (omega arith) in
    let right_end = state_at_end _ _ ys (k + i) c.loop-i.invariant.right (omega arith) in
    let different : c.loop-i.left_state ≢ c.loop-i.right_state = λ same.
    false≢true (sym c.if-eq.false ∙ c.eq.ensures ∙ rw same (g.met.F.State.Eq.laws.refl _)) in
    record {
      none = (
        λ none. inr (λ same. different
            (g.met.F.BlockFunction.output_injective _ _ c.loop-i.invariant.left_valid c.loop-i.invariant.right_valid
            (rw (left_end, right_end) same))),
        λ h. refl,
      );
      some = tt;
      only = λ other h. absurd (different (left_end ∙ one_end _ _ xs ys _ _ h.collide ∙ sym right_end));
    }
