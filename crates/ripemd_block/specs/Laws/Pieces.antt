-- Laws of hash states, for every block function: however bytes come in, the state is that of all of them, and a
-- finished state gives the hash.
use Rattle.std.proofs.Common.{◌≡◌, ℕ, ◌+◌, ◌*◌, ◌%◌, ◌^◌, ◌<◌, refl, ap, arith, List, [], ◌++◌, length, length-append}
use Rattle.std.proofs.lemmas.List.{append_assoc, append-nil}
use Rattle.std.proofs.lemmas.List.Sums.{fold-append}
use Rattle.ripemd_block.specs.Standard.{word_bytes, Parameters, compress, zero_count, with_padding, blocks, partial_block, hash, ripemd}
use Rattle.ripemd_block.specs.Laws.Blocks.{blocks_of_short, left_over_of_short, length-blocks, length-partial_block, blocks-append, partial_block-append}
use Rattle.ripemd_block.specs.States.{HashState, IsWithoutTail, initial_state, new_state, after_blocks, with_tail, fed, finish}

-- ---- blocks: none change nothing, and they may come in parts (`UpdateCore`)

pub after_no_blocks : (step : List ℕ → List ℕ → List ℕ) (are_words : List ℕ → Type 0) (h : HashState)
    → IsWithoutTail are_words h → after_blocks step h [] ≡ h
after_no_blocks step are_words h valid =
    let count : (h.count + 0) % 2 ^ 64 ≡ h.count = omega (arith, valid.state.count) in
    rw count refl

pub after_joined_blocks : (step : List ℕ → List ℕ → List ℕ) (h : HashState) (xs ys : List (List ℕ))
    → after_blocks step (after_blocks step h xs) ys ≡ after_blocks step h (xs ++ ys)
after_joined_blocks step h xs ys =
    let count : ((h.count + length xs) % 2 ^ 64 + length ys) % 2 ^ 64 ≡ (h.count + length (xs ++ ys)) % 2 ^ 64 =
    omega (arith, length-append xs ys) in
    rw (count, fold-append step h.words xs ys) refl

-- ---- bytes

module _ (step : List ℕ → List ℕ → List ℕ) (h : HashState) where
  pub fed_twice : (x y : List ℕ) → fed step (fed step h x) y ≡ fed step h (x ++ y)
  unfolding fed
  fed_twice x y =
      let rest : List ℕ = partial_block (h.tail ++ x) ++ y in
      rw (← append_assoc h.tail x y, blocks-append (h.tail ++ x) y, partial_block-append (h.tail ++ x) y)
      (ap (λ (m : HashState). with_tail m (partial_block rest)) (after_joined_blocks step h (blocks (h.tail ++ x)) (blocks rest)))

  -- bytes that leave the tail short of a block
  pub fed_short : (x : List ℕ) → h.count < 2 ^ 64 → length (h.tail ++ x) < 64
      → fed step h x ≡ with_tail h (h.tail ++ x)
  unfolding fed
  fed_short x count short =
      let same : (h.count + 0) % 2 ^ 64 ≡ h.count = omega arith in
      rw (blocks_of_short (h.tail ++ x) short, left_over_of_short (h.tail ++ x) short, same) refl

  pub fed_nothing : h.count < 2 ^ 64 → length h.tail < 64 → fed step h [] ≡ h
  fed_nothing count short = rw append-nil at (fed_short [] count (rw append-nil short))

-- ---- the end

-- the padding of a whole message follows what is left after its whole blocks
pub with_padding_rest : (m : List ℕ) (n : ℕ)
    → blocks (with_padding m n) ≡ blocks m ++ blocks (with_padding (partial_block m) n)
unfolding with_padding
with_padding_rest m n =
    let zeros : zero_count (length m) ≡ zero_count (length (partial_block m)) = omega (arith, length-partial_block m) in
    rw (zeros, append_assoc, append_assoc) (blocks-append m _)

-- a state fed a whole message from the start finishes as its hash: if the count wrapped, 8 * 64 * 2 ^ 64 is a
-- multiple of 2 ^ 64
pub finish_fed : {D : Type 0} (start : List ℕ) (step : List ℕ → List ℕ → List ℕ) (output : List ℕ → D)
    (m : List ℕ) → finish step output (fed step (initial_state start) m) ≡ hash start step output m
unfolding finish fed hash
finish_fed start step output m =
    let bits : 8 * (length (partial_block m) + 64 * ((0 + length (blocks m)) % 2 ^ 64)) % 2 ^ 64 ≡ 8 * length m % 2 ^ 64 =
    omega (arith, length-partial_block m, length-blocks m) in
    rw (bits, with_padding_rest m (8 * length m % 2 ^ 64), fold-append) refl

-- the digest of a message shorter than a block, from a new state with the message as its tail
pub finish_short : (v : Parameters) (m : List ℕ)
    → finish (compress v) word_bytes (with_tail (new_state v) m) ≡ ripemd v m
unfolding finish hash
finish_short v m =
    let bits : 8 * (length m + 64 * 0) % 2 ^ 64 ≡ 8 * length m % 2 ^ 64 = omega arith in
    rw bits refl
