-- The turns of one message: its blocks one after another, and then, if there is a state for it, its output hashed
-- again.
use Rattle.ripemd_block.proofs.Library.{◌≡◌, ℕ, ◌+◌, ◌<◌, ◌≤◌, inl, inr, arith, refl, ap, ◌∙◌, take_all, List, [], length, take, get_or, Option, None, Some, is_some, option_map, unwrap_or, cond, cases_lt, fold_more}
use Rattle.ripemd_block.specs.Standard.{blocks, walk}
use Rattle.ripemd_batch.specs.Lanes.{padded_after, hash_after, hashed_again}

-- the number of turns, for at most so many blocks
abbrev pub turns_of : {S : Type 0} → Option S → ℕ → ℕ
turns_of outer most = cond (is_some outer) (most + 1) most

module _ (step : List ℕ → List ℕ → List ℕ) (output : List ℕ → List ℕ) {S : Type 0} (list : S → List ℕ)
    (first : List ℕ) (bs : List (List ℕ)) (most : ℕ) where
  -- the words after i turns
  pub record Turned (outer : Option S) (i : ℕ) (words : List ℕ) : Type 0 where
    pub walked : i ≤ most → words ≡ walk step first (take i bs)
    pub again : (state : S) → outer ≡ Some state → most < i
        → output words ≡ hash_after 64 (list state) step output (output (walk step first bs))

  pub turn_on : (outer : Option S) (default second : S) (i : ℕ) (before after : List ℕ) → length bs ≤ most
      → i < turns_of outer most → second ≡ unwrap_or outer default
      → (i < most → i < length bs → after ≡ step before (get_or bs i []))
      → (i < most → length bs ≤ i → after ≡ before)
      → (most ≤ i → output after ≡ hash_after 64 (list second) step output (output before))
      → Turned outer i before → Turned outer (i + 1) after
  turn_on outer default second i before after top here is taken kept more t = record {
    walked = λ h.
        let so_far = t.walked (omega arith) in
        elim (cases_lt i (length bs)) [
          | inl block ↦ rw (fold_more step first bs i [] block, ← so_far) (taken (omega arith) block)
          | inr none ↦ rw (kept (omega arith) none, so_far, take_all i bs none, take_all (i + 1) bs (omega arith)) refl
        ];
    again = λ state some h.
        let last : i < most + 1 = rw some at here in
        let all = t.walked (omega arith) ∙ ap (walk step first) (take_all i bs (omega arith)) in
        (rw (is, some) at more (omega arith)) ∙ ap (λ (words : List ℕ). hash_after 64 (list state) step output (output words)) all;
  }

  pub all_turned : (outer : Option S) (before i : ℕ) (words message : List ℕ) → length bs ≤ most
      → i ≡ turns_of outer most → bs ≡ blocks (padded_after before message) → Turned outer i words
      → output words ≡ hashed_again step output (option_map list outer) (hash_after before first step output) message
  unfolding hash_after
  all_turned None before i words message top end are t =
      ap output (t.walked (omega (arith, end)) ∙ ap (walk step first) (take_all i bs (omega (arith, end)) ∙ are))
  all_turned (Some outer) before i words message top end are t =
      t.again outer refl (omega (arith, end)) ∙ ap (λ (all : List (List ℕ)). hash_after 64 (list outer) step output (output (walk step first all))) are
