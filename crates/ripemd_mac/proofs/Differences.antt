-- Bytes compared by the bitwise or of their differences.
use Rattle.ripemd.proofs.Library.{◌≡◌, ℕ, ◌+◌, ◌≤◌, ◌<◌, ◌↔◌, IsTrue, nat_eq, List, length, get_or, bit_or, ap, ◌∙◌, arith, rules, below_more, xor_assoc, xor_self, xor_zero_l, xor_zero_r, or_zero_l, same_lists, get_or_default, le_or_l, le_or_r}
use Rattle.std.specs.Int.Bits.{bit_xor}

-- they agree at the places before this one
abbrev pub AgreeTo : ℕ → List ℕ → List ℕ → Type 0
AgreeTo n a b = (j : ℕ) → j < n → get_or a j 0 ≡ get_or b j 0

no_difference : (x y : ℕ) → bit_xor x y ≡ 0 → x ≡ y
no_difference x y none = cc (xor_zero_r x, xor_self y, xor_assoc x y y, xor_zero_l y)

-- one place more
pub difference_more : (d n : ℕ) (a b : List ℕ) → (d ≡ 0) ↔ AgreeTo n a b
    → (bit_or d (bit_xor (get_or a n 0) (get_or b n 0)) ≡ 0) ↔ AgreeTo (n + 1) a b
difference_more d n a b before =
    let x : ℕ = get_or a n 0 in
    let y : ℕ = get_or b n 0 in (
      (λ none.
          let so_far : d ≡ 0 = omega (arith, none, le_or_l d (bit_xor x y)) in
          let here : bit_xor x y ≡ 0 = omega (arith, none, le_or_r d (bit_xor x y)) in
          below_more (λ j. get_or a j 0 ≡ get_or b j 0) n (before.0 so_far) (no_difference x y here)),
      (λ agree. cc (before.1 (λ j less. agree j (omega arith)), agree n (omega arith), xor_self y, or_zero_l 0)),
    )

-- equal lengths, compared to the end
pub same_or_none : (d n : ℕ) (a b : List ℕ) → length a ≡ length b → length a ≤ n → (d ≡ 0) ↔ AgreeTo n a b
    → IsTrue (nat_eq d 0) ↔ (a ≡ b)
same_or_none d n a b size end agree = (
  (λ none.
      let zero : d ≡ 0 = search (rules, none) in
      same_lists a b size (λ j x within.
      get_or_default a j x 0 within ∙ agree.0 zero j (omega arith) ∙ get_or_default b j 0 x (omega arith))),
  (λ same. search (rules, agree.1 (λ j less. ap (λ (l : List ℕ). get_or l j 0) same))),
)
