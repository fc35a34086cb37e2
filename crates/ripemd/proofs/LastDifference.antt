-- Two walks side by side, from places j and k on: the last places where their pairs differ, and what they say of the
-- two messages.
use Rattle.ripemd_block.proofs.Library.{◌≡◌, ◌≢◌, ◌⊎◌, inl, inr, ◌↔◌, ℕ, ◌+◌, ◌-◌, ◌^◌, ◌<◌, ◌≤◌, refl, sym, ap, ◌∙◌, arith, List, [], length, take, get_or, Option, None, Some, IsNone, IfSome, take_all, same_lists, get_or_default, fold_more, cases_lt, cases_order}
use Rattle.std.specs.Option.{MatchOption}
use Rattle.ripemd_block.specs.Standard.{padded_message, blocks, walk}
use Rattle.ripemd_block.proofs.PaddedBlocks.{length-padded_blocks, one_length, one_message_of_blocks}
use Rattle.ripemd.specs.Types.{Collision}
use Rattle.ripemd.specs.Collisions.{Pair, state_after, pair_at, pair_of, CollideAt, IsCollision, IsOnlyCollision}

-- c has the pairs right before a place of the first walk, and those beside them, and they differ
pub record IsDifference {S : Type 0} (start : S) (step : S → List ℕ → S) (xs ys : List (List ℕ)) (j k from : ℕ)
    (c : Collision S) : Type 0 where
  pub next : c.left.place + 1 ≡ from
  pub beside : c.left.place + k ≡ c.right.place + j
  pub left : pair_of c.left ≡ pair_at start step xs c.left.place
  pub right : pair_of c.right ≡ pair_at start step ys c.right.place
  pub different : pair_of c.left ≢ pair_of c.right

-- what was found among the first n pairs: from some place of the first walk on all agree. It is the first place if
-- nothing was found, and else the one after the pairs that were found
pub record HasFound {S : Type 0} (start : S) (step : S → List ℕ → S) (xs ys : List (List ℕ)) (j k n : ℕ)
    (last : Option (Collision S)) : Type 0 where
  pub from : ℕ
  pub within : from ≤ j + n
  pub agree : (p q : ℕ) → p + k ≡ q + j → from ≤ p → p < j + n → pair_at start step xs p ≡ pair_at start step ys q
  pub found : MatchOption last (from ≡ j) (IsDifference start step xs ys j k from)

module _ {S : Type 0} (start : S) (step : S → List ℕ → S) (xs ys : List (List ℕ)) (j k : ℕ) where
  pub found_before : (n : ℕ) {last : Option (Collision S)} → HasFound start step xs ys j k n last
      → pair_at start step xs (j + n) ≡ pair_at start step ys (k + n) → HasFound start step xs ys j k (n + 1) last
  found_before n before same = record {
    from = before.from;
    within = omega arith;
    agree = λ p q beside low high. elim (cases_lt p (j + n)) [
      | inl less ↦ before.agree p q beside low less
      | inr most ↦
          let left : p ≡ j + n = omega arith in
          let right : q ≡ k + n = omega arith in
          rw (left, right) same
    ];
    found = before.found;
  }

  pub found_now : (n : ℕ) (c : Collision S) → c.left.place ≡ j + n → c.right.place ≡ k + n
      → pair_of c.left ≡ pair_at start step xs (j + n) → pair_of c.right ≡ pair_at start step ys (k + n)
      → pair_of c.left ≢ pair_of c.right → HasFound start step xs ys j k (n + 1) (Some c)
  found_now n c left_place right_place left right different = record {
    from = j + (n + 1);
    within = omega arith;
    agree = λ p q beside low high. absurd (omega arith);
    found = record {
      next = omega arith;
      beside = omega arith;
      left = rw left_place left;
      right = rw right_place right;
      different = different;
    };
  }

-- ---- walks

module _ {S : Type 0} (start : S) (step : S → List ℕ → S) where
  -- a step of the state and the block of a place gives the state at the next place
  pub state_met : (bs : List (List ℕ)) (j i : ℕ) {s t u : S} {block : List ℕ} → s ≡ walk step start (take (j + i) bs)
      → t ≡ s → block ≡ get_or bs (j + i) [] → u ≡ step t block → j + i < length bs
      → u ≡ walk step start (take (j + (i + 1)) bs)
  state_met bs j i walked state of_place step_is within =
      let place : j + (i + 1) ≡ j + i + 1 = omega arith in rw place (cc (fold_more step start bs (j + i) [] within))

  -- a walk through all blocks
  pub state_at_end : (bs : List (List ℕ)) (p : ℕ) {s : S} → s ≡ walk step start (take p bs) → length bs ≤ p
      → s ≡ walk step start bs
  state_at_end bs p walked all = rw (take_all p bs all) at walked

  -- a step of the last pair gives the last state
  last_state : (bs : List (List ℕ)) (p : ℕ) → p + 1 ≡ length bs
      → walk step start bs ≡ state_after step (pair_at start step bs p)
  last_state bs p h = rw (take_all (p + 1) bs (omega arith)) at (fold_more step start bs p [] (omega arith))

  -- where all pairs after places p and q agree, the steps at these lead to one state exactly if the walks do
  steps_and_ends : (xs ys : List (List ℕ)) (p q : ℕ) → p < length xs → q < length ys → length xs - p ≡ length ys - q
      → ((i : ℕ) → 0 < i → i < length xs - p → pair_at start step xs (p + i) ≡ pair_at start step ys (q + i))
      → (state_after step (pair_at start step xs p) ≡ state_after step (pair_at start step ys q))
      ↔ (walk step start xs ≡ walk step start ys)
  steps_and_ends xs ys p q left right rest later =
      elim (cases_lt 1 (length xs - p)) [
        | inl more ↦
            let m = length xs - p - 1 in
            let next = ap (λ (pair : Pair S). pair.0) (later 1 (omega arith) more) in
            let last = ap (state_after step) (later m (omega arith) (omega arith)) in (
              λ h. last_state xs (p + m) (omega arith) ∙ last ∙ sym (last_state ys (q + m) (omega arith)),
              λ h. sym (fold_more step start xs p [] left) ∙ next ∙ fold_more step start ys q [] right,
            )
        | inr one ↦
            let left_end = last_state xs p (omega arith) in
            let right_end = last_state ys q (omega arith) in
            (λ h. left_end ∙ h ∙ sym right_end, λ h. sym left_end ∙ h ∙ right_end)
      ]

  pub one_end : (xs ys : List (List ℕ)) (p q : ℕ) → CollideAt start step xs ys p q
      → walk step start xs ≡ walk step start ys
  one_end xs ys p q c =
      (steps_and_ends xs ys p q c.left_place c.right_place c.same_rest c.later_agree).0 c.one_step

-- ---- the walks of two messages, from j and k on to their ends: all the blocks of the shorter walk

module _ {S : Type 0} (start : S) (step : S → List ℕ → S) (a b : List ℕ) (j k n : ℕ)
    (ahead : j ≡ length (blocks (padded_message a)) - length (blocks (padded_message b)))
    (other_ahead : k ≡ length (blocks (padded_message b)) - length (blocks (padded_message a)))
    (count : j + n ≡ length (blocks (padded_message a))) where
  abbrev xs : List (List ℕ)
  xs = blocks (padded_message a)

  abbrev ys : List (List ℕ)
  ys = blocks (padded_message b)

  abbrev Found : Option (Collision S) → Type 0
  Found = HasFound start step xs ys j k n

  -- short messages whose pairs all agree are equal, since the last block has their length
  same_message : length a < 2 ^ 61 → length b < 2 ^ 61 → Found None → a ≡ b
  same_message ha hb found =
      let some : 0 < n = omega (arith, length-padded_blocks a, length-padded_blocks b) in
      let last = found.agree (length xs - 1) (length ys - 1) (omega arith) (omega arith) (omega arith) in
      let size : length a ≡ length b = one_length a b ha hb (ap (λ (pair : Pair S). pair.1) last) in
      let same : length xs ≡ length ys = omega (arith, length-padded_blocks a, length-padded_blocks b) in
      one_message_of_blocks a b (same_lists xs ys same (λ i d within.
      let block = ap (λ (pair : Pair S). pair.1) (found.agree i i (omega arith) (omega arith) (omega arith)) in
      cc (get_or_default xs i d [] within, get_or_default ys i d [] (omega arith))))

  -- no difference was found exactly if the messages are equal, where their hashes are
  pub none_found : {D : Type 0} (x y : D) → x ≡ y → length a < 2 ^ 61 → length b < 2 ^ 61
      → (last : Option (Collision S)) → Found last → IsNone last ↔ ((a ≡ b) ⊎ (x ≢ y))
  none_found x y same ha hb None found = (λ none. inl (same_message ha hb found), λ h. refl)
  none_found x y same ha hb (Some c) found = (
    λ none. cc,
    λ h. elim h [
      | inl one ↦
          let size = ap (λ (m : List ℕ). length (blocks (padded_message m))) one in
          let place : c.left.place ≡ c.right.place = omega arith in
          absurd (found.found.different (cc))
      | inr different ↦ absurd (different same)
    ],
  )

  pub some_found : walk step start xs ≡ walk step start ys → (last : Option (Collision S)) → Found last
      → IfSome last (IsCollision start step a b)
  some_found same None found = tt
  some_found same (Some c) found =
      let p = c.left.place in
      let q = c.right.place in
      let later = λ (i : ℕ) (after : 0 < i) (before : i < length xs - p).
      found.agree (p + i) (q + i) (omega arith) (omega arith) (omega arith) in
      record {
        left = found.found.left;
        right = found.found.right;
        collide = record {
          left_place = omega arith;
          right_place = omega arith;
          same_rest = omega arith;
          different = λ h. found.found.different (cc);
          one_step = (steps_and_ends start step xs ys p q (omega arith) (omega arith) (omega arith) later).1 same;
          later_agree = later;
        };
      }

  -- the collision with these places and pairs
  abbrev collision_of : ℕ → Pair S → ℕ → Pair S → Collision S
  collision_of p x q y = record {
    left = record { place = p; state = x.0; block = x.1 };
    right = record { place = q; state = y.0; block = y.1 };
  }

  pub only_found : (last : Option (Collision S)) → Found last → IsOnlyCollision start step a b last
  only_found None found other h =
      absurd (h.collide.different (found.agree other.left.place other.right.place (omega arith) (omega arith) (omega arith)))
  only_found (Some c) found other h =
      elim (cases_order found.from (other.left.place + 1)) [
        | inl same ↦
            let left : c.left.place ≡ other.left.place = omega arith in
            let right : c.right.place ≡ other.right.place = omega arith in
            let one : collision_of c.left.place (pair_of c.left) c.right.place (pair_of c.right)
            ≡ collision_of other.left.place (pair_of other.left) other.right.place (pair_of other.right) = cc in ap Some one
        | inr (inl before) ↦
            absurd (h.collide.different (found.agree other.left.place other.right.place (omega arith) (omega arith) (omega arith)))
        | inr (inr after) ↦
            let i = c.left.place - other.left.place in
            let left : other.left.place + i ≡ c.left.place = omega arith in
            let right : other.right.place + i ≡ c.right.place = omega arith in
            absurd (found.found.different (cc (h.collide.later_agree i (omega arith) (omega arith))))
      ]
