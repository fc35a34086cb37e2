-- Laws of the whole blocks of bytes, and of the bytes after them.
use Rattle.std.proofs.Common.{◌≡◌, ℕ, zero, suc, ◌+◌, ◌*◌, ◌/◌, ◌%◌, ◌<◌, ◌≤◌, refl, ap, arith, zero-add, List, [], ◌∷◌, ◌++◌, length, drop, length-append}
use Rattle.std.proofs.lemmas.List.{length-drop, take_all, drop-drop, nil_from_length, take-append-le, drop-append-le}
use Rattle.std.specs.Simd.{first_chunks}
use Rattle.ripemd_block.specs.Standard.{blocks, partial_block}

-- ---- bytes taken apart

pub length-blocks : (a : List ℕ) → length (blocks a) ≡ length a / 64
unfolding blocks
length-blocks a = length-first_chunks (length a / 64) a
  where
    length-first_chunks : (k : ℕ) (a : List ℕ) → length (first_chunks 64 k a) ≡ k
    length-first_chunks zero a = refl
    length-first_chunks (suc k) a = ap suc (length-first_chunks k (drop 64 a))

pub length-partial_block : (a : List ℕ) → length (partial_block a) ≡ length a % 64
unfolding partial_block
length-partial_block a = omega (arith, length-drop (length a / 64 * 64) a)

first_chunks-append : (k j : ℕ) (a b : List ℕ) → k * 64 ≤ length a
    → first_chunks 64 (k + j) (a ++ b) ≡ first_chunks 64 k a ++ first_chunks 64 j (drop (k * 64) a ++ b)
first_chunks-append zero j a b h = rw (zero-add j) refl
first_chunks-append (suc k) j a b h =
    let step : suc k + j ≡ suc (k + j) = omega arith in
    let place : suc k * 64 ≡ 64 + k * 64 = omega arith in
    let rest = first_chunks-append k j (drop 64 a) b (omega (arith, length-drop 64 a)) in
    rw (step, place, take-append-le 64 a b (omega arith), drop-append-le 64 a b (omega arith), rest, drop-drop (k * 64) 64 a) refl

-- only the bytes after the whole blocks so far count for the blocks that follow
pub blocks-append : (a b : List ℕ) → blocks (a ++ b) ≡ blocks a ++ blocks (partial_block a ++ b)
unfolding blocks partial_block
blocks-append a b =
    let more = length (partial_block a ++ b) / 64 in
    let all : length (a ++ b) / 64 ≡ length a / 64 + more = omega (arith, length-append {A = ℕ}, length-partial_block a) in
    rw all (first_chunks-append (length a / 64) more a b (omega arith))

-- and for what is left over in the end
pub partial_block-append : (a b : List ℕ) → partial_block (a ++ b) ≡ partial_block (partial_block a ++ b)
unfolding partial_block
partial_block-append a b =
    let place = length a / 64 * 64 in
    let more = length (partial_block a ++ b) / 64 * 64 in
    let all : length (a ++ b) / 64 * 64 ≡ place + more = omega (arith, length-append {A = ℕ}, length-partial_block a) in
    rw (all, ← drop-drop more place (a ++ b), drop-append-le place a b (omega arith)) refl

-- ---- bytes that begin with whole blocks

none_left : (k : ℕ) (a : List ℕ) → length a ≡ k * 64 → partial_block a ≡ []
none_left k a h = nil_from_length (partial_block a) (omega (arith, length-partial_block a))

-- the blocks of both, joined
pub blocks_joined : (k : ℕ) (a b : List ℕ) → length a ≡ k * 64 → blocks (a ++ b) ≡ blocks a ++ blocks b
blocks_joined k a b h = rw (none_left k a h) at (blocks-append a b)

pub left_over_joined : (k : ℕ) (a b : List ℕ) → length a ≡ k * 64 → partial_block (a ++ b) ≡ partial_block b
left_over_joined k a b h = rw (none_left k a h) at (partial_block-append a b)

-- ---- fewer bytes than a block, one block, and two

pub blocks_of_short : (a : List ℕ) → length a < 64 → blocks a ≡ []
unfolding blocks
blocks_of_short a h = let none : length a / 64 ≡ 0 = omega arith in rw none refl

pub left_over_of_short : (a : List ℕ) → length a < 64 → partial_block a ≡ a
unfolding partial_block
left_over_of_short a h = let none : length a / 64 * 64 ≡ 0 = omega arith in rw none refl

pub blocks_of_one : (a : List ℕ) → length a ≡ 64 → blocks a ≡ a ∷ []
unfolding blocks
blocks_of_one a h = rw (h, take_all 64 a (omega arith)) refl

pub blocks_of_two : (a b : List ℕ) → length a ≡ 64 → length b ≡ 64 → blocks (a ++ b) ≡ a ∷ b ∷ []
blocks_of_two a b ha hb = rw (blocks_joined 1 a b ha, blocks_of_one a ha, blocks_of_one b hb) refl
