use Rattle.std.proofs.Common.{◌≡◌, ℕ, ◌+◌, ◌-◌, List, ◌++◌, length, IsTrue, IsFalse, Bool, true, false, rules, sym, ◌∙◌, arith, take_at, drop_at}
use Rattle.ripemd_c.specs.KeptBytes.{IsSaved, IsAppended}
use Rattle.ripemd_c.specs.KeptStates.{Updates, kept_in}
use Rattle.ripemd_c.proofs.states.update_kept.Goals as goal

-- the state after a piece, if the bytes were those of a saved state
updated : {S : Type 0} {is_valid : S → Type 0} {state_bytes : S → List ℕ}
    (injective : (s t : S) → is_valid s → is_valid t → state_bytes s ≡ state_bytes t → s ≡ t)
    {fed : S → List ℕ → S} (twice : (s : S) (x y : List ℕ) → fed (fed s x) y ≡ fed s (x ++ y))
    (cleared : List ℕ → List ℕ) {old piece new : List ℕ} (done : Bool)
    → (IsTrue done → IsAppended is_valid state_bytes fed (cleared old) piece (cleared new))
    → (IsFalse done → (s : S) → is_valid s → ¬ (state_bytes s ≡ cleared old))
    → Updates (λ s kept. IsSaved is_valid state_bytes s (cleared kept)) fed old piece new done
updated injective {fed = fed} twice cleared {piece = piece} true appended refused =
    let added = appended (search rules) in
    let before = added.before in
    record {
      state = λ s is. (search rules, rw (injective s added.state is.valid before.valid (is.saved ∙ sym before.saved)) added.after);
      message = λ start message is. (
        search rules,
        rw (← twice start message piece, injective (fed start message) added.state is.valid before.valid (is.saved ∙ sym before.saved)) added.after,
      );
      refused = (λ no. absurd (search (rules, no)), λ none. absurd (none added.state before));
    }
updated injective twice cleared false appended refused =
    let none = refused (search rules) in
    record {
      state = λ s is. absurd (none s is.valid is.saved);
      message = λ start message is. absurd (none _ is.valid is.saved);
      refused = (λ end s is. none s is.valid is.saved, λ end. search rules);
    }

pub returns-clause-updates : goal.returns-clause-updates
returns-clause-updates g c =
    let size : ℕ = g.S.Saved.ByteArray.LEN in
    let mark = c.split_at_mut-rest in
    let parts = c.split_at_mut-kept in
    let update = c.update_kept in
    let new = update.new.kept in
    let left : 1 + size - 1 ≡ size = omega arith in
    let all : length new ≡ size = update.auto.kept ∙ parts.ensures.front_len ∙ c.LEN.ensures in
    let before : kept_in size c.args.state.now ≡ parts.result.0.now = rw (left, ← mark.ensures.back, ← c.LEN.ensures) (sym parts.ensures.front) in
    let after : kept_in size (mark.result.0.now ++ (new ++ parts.result.1.now)) ≡ new =
    rw (left, drop_at mark.result.0.now (new ++ parts.result.1.now) 1 mark.ensures.front_len) (take_at new parts.result.1.now size all) in
    rw (before, after)
    (updated g.met.S.Kept.injective g.met.S.Incremental.fed_twice g.S.Kept.cleared update.result update.ensures.appended update.ensures.refused)
