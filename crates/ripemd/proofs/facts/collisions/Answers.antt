use Rattle.std.proofs.Common.{◌≡◌, ℕ, zero, suc, ◌+◌, ◌<◌, List, [], ◌∷◌, refl, ap, arith, slice_index}
use Rattle.ripemd_block.specs.Standard.{padded_message, blocks, with_padding}
use Rattle.ripemd.specs.Collisions.{Pair, pair_at}
use Rattle.ripemd.specs.Worked.{parity, block_of, message_of, Collide, Met, met}
use Rattle.ripemd.proofs.facts.collisions.Goals as goal

-- the first byte of a pair's block
abbrev first_byte : Pair ℕ → ℕ
first_byte pair = slice_index pair.1 0

-- the pairs at places of the walks through two such messages are the same
abbrev Same : List ℕ → List ℕ → ℕ → ℕ → Type 0
Same a b j k = pair_at 0 parity (blocks (padded_message (message_of a))) j
    ≡ pair_at 0 parity (blocks (padded_message (message_of b))) k

-- what holds of 1 and 2 holds of all numbers between 0 and 3
two : (P : ℕ → Type 0) → P 1 → P 2 → (i : ℕ) → 0 < i → i < 3 → P i
two P one other zero some less = absurd (omega arith)
two P one other (suc zero) some less = one
two P one other (suc (suc zero)) some less = other
two P one other (suc (suc (suc i))) some less = absurd (omega arith)

first : Collide (1 ∷ 2 ∷ []) (3 ∷ 2 ∷ []) 0 0
unfolding blocks with_padding
first = record {
  left_place = omega arith;
  right_place = omega arith;
  same_rest = refl;
  different = λ same. omega (arith, ap first_byte same);
  one_step = refl;
  later_agree = two (λ i. Same (1 ∷ 2 ∷ []) (3 ∷ 2 ∷ []) (0 + i) (0 + i)) refl refl;
}

pub returns-clause-places : goal.returns-clause-places
unfolding blocks with_padding
returns-clause-places c = record {
  first = first;
  last_difference = record {
    left_place = omega arith;
    right_place = omega arith;
    same_rest = refl;
    different = λ same. omega (arith, ap first_byte same);
    one_step = refl;
    later_agree = λ i some less.
        two (λ i. Same (1 ∷ 2 ∷ []) (3 ∷ 4 ∷ []) (1 + i) (1 + i)) refl refl i some (omega arith);
  };
  unlike_lengths = record {
    left_place = omega arith;
    right_place = omega arith;
    same_rest = refl;
    different = λ same. omega (arith, ap (λ (pair : Pair ℕ). slice_index pair.1 57) same);
    one_step = refl;
    later_agree = λ i some less. absurd (omega arith);
  };
  no_difference = λ collide. collide.different refl;
  not_one_step = λ collide. omega arith;
  another_later = λ collide. omega (arith, ap first_byte (collide.later_agree 1 (omega arith) (omega arith)));
  another_rest = λ collide. omega arith;
  past_the_ends = λ collide. omega arith;
}

one : Met (met 0 (block_of 1) 0 (block_of 3))
unfolding blocks with_padding
one = record { left = refl; right = refl; collide = first }

pub returns-clause-answers : goal.returns-clause-answers
unfolding blocks with_padding
returns-clause-answers c = record {
  one = one;
  another_left_state = λ met. omega (arith, ap (λ (pair : Pair ℕ). pair.0) met.left);
  another_left_block = λ met. omega (arith, ap first_byte met.left);
  another_right_state = λ met. omega (arith, ap (λ (pair : Pair ℕ). pair.0) met.right);
  another_right_block = λ met. omega (arith, ap first_byte met.right);
  not_none = λ only. cc (only _ one);
}
