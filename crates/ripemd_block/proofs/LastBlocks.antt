-- The one or two blocks that end a padded message.
use Rattle.ripemd_block.proofs.Library.{◌≡◌, ℕ, zero, suc, ◌+◌, ◌-◌, ◌*◌, ◌<◌, ◌≤◌, refl, sym, ap, ◌∙◌, arith, List, [], ◌∷◌, ◌++◌, length, take, drop, set, replicate, slice_set, length-append, length-replicate, append_assoc, take_at, set_at, drop-replicate, take-replicate, replicate-append-replicate, w32, to_le_bytes, flat_map-append}
use Rattle.ripemd_block.specs.Standard.{eight_bytes, word_bytes, with_padding, blocks, zero_count}
use Rattle.ripemd_block.specs.Laws.Blocks.{blocks_of_one, blocks_of_two}

-- a tail at the front of zero bytes, with one byte written after it
pub marked_block : (tail : List ℕ) (byte : ℕ) → length tail < 64
    → set (tail ++ drop (length tail) (replicate 64 0)) (length tail) byte ≡ tail ++ byte ∷ replicate (63 - length tail) 0
marked_block tail byte short =
    let room : 64 - length tail ≡ suc (63 - length tail) = omega arith in
    rw (drop-replicate {X = ℕ} (length tail) 64 0, room) (set_at tail 0 (replicate (63 - length tail) 0) byte (length tail) refl)

-- ---- a tail with its padding

-- after a short tail the length is in the same block
with_padding_one : (tail : List ℕ) (n : ℕ) → length tail < 56
    → ((tail ++ 0x80 ∷ replicate (55 - length tail) 0) ++ eight_bytes n) ∷ [] ≡ blocks (with_padding tail n)
unfolding with_padding
with_padding_one tail n h =
    let mark : List ℕ = 0x80 ∷ replicate (55 - length tail) 0 in
    let zeros : length mark ≡ 56 - length tail = omega (arith, length-replicate {A = ℕ} (55 - length tail) 0) in
    let front : length (tail ++ mark) ≡ 56 = omega (arith, zeros, length-append tail mark) in
    let all : List ℕ = (tail ++ mark) ++ eight_bytes n in
    let size : length all ≡ 64 = omega (arith, front, length-append (tail ++ mark) (eight_bytes n)) in
    let count : zero_count (length tail) ≡ 55 - length tail = omega arith in
    rw count (sym (blocks_of_one all size))

pub with_padding_short : (tail : List ℕ) (n : ℕ) → length tail < 56
    → (take 56 (tail ++ 0x80 ∷ replicate (63 - length tail) 0) ++ eight_bytes n) ∷ [] ≡ blocks (with_padding tail n)
with_padding_short tail n h =
    let mark : List ℕ = 0x80 ∷ replicate (55 - length tail) 0 in
    let front : length (tail ++ mark) ≡ 56 = omega (arith, length-replicate {A = ℕ} (55 - length tail) 0, length-append tail mark) in
    let more : 63 - length tail ≡ 55 - length tail + 8 = omega arith in
    let split : tail ++ 0x80 ∷ replicate (63 - length tail) 0 ≡ (tail ++ mark) ++ replicate 8 0 =
    rw (more, ← replicate-append-replicate {A = ℕ} (55 - length tail) 8 0, append_assoc tail mark (replicate 8 0)) in
    rw (split, take_at (tail ++ mark) (replicate 8 0) 56 front) (with_padding_one tail n h)

-- after a long one it is in a second block
pub with_padding_long : (tail : List ℕ) (n : ℕ) → 56 ≤ length tail → length tail < 64
    → (tail ++ 0x80 ∷ replicate (63 - length tail) 0) ∷ (replicate 56 0 ++ eight_bytes n) ∷ []
    ≡ blocks (with_padding tail n)
unfolding with_padding
with_padding_long tail n low high =
    let mark : List ℕ = 0x80 ∷ replicate (63 - length tail) 0 in
    let end : List ℕ = replicate 56 0 ++ eight_bytes n in
    let zeros : length mark ≡ 64 - length tail = omega (arith, length-replicate {A = ℕ} (63 - length tail) 0) in
    let front : length (tail ++ mark) ≡ 64 = omega (arith, zeros, length-append tail mark) in
    let count : zero_count (length tail) ≡ 63 - length tail + 56 = omega arith in
    let split : tail ++ 0x80 ∷ replicate (63 - length tail + 56) 0 ++ eight_bytes n ≡ (tail ++ mark) ++ end =
    rw (← replicate-append-replicate {A = ℕ} (63 - length tail) 56 0, ← append_assoc tail mark (replicate 56 0))
    (append_assoc (tail ++ mark) (replicate 56 0) (eight_bytes n)) in
    rw (count, split) (sym (blocks_of_two (tail ++ mark) end front refl))

-- ---- a block assembled from words

zero_bytes : (k : ℕ) → word_bytes (replicate k 0) ≡ replicate (4 * k) 0
zero_bytes zero = refl
zero_bytes (suc k) =
    let next : 4 * suc k ≡ suc (suc (suc (suc (4 * k)))) = omega arith in
    rw (next, zero_bytes k) refl

pub words_padded : (tail : List ℕ) (n : ℕ) (front behind last : List ℕ) → word_bytes front ≡ tail → length tail < 56
    → length tail ≡ 4 * length front → behind ≡ 0x80 ∷ replicate (13 - length front) 0 → word_bytes last ≡ eight_bytes n
    → word_bytes (front ++ (behind ++ last)) ∷ [] ≡ blocks (with_padding tail n)
words_padded tail n front behind last of_front short words is_behind of_last =
    let bytes = to_le_bytes w32 in
    let zeros : 55 - length tail ≡ suc (suc (suc (4 * (13 - length front)))) = omega (arith, words, short) in
    let mark : word_bytes behind ≡ 0x80 ∷ replicate (55 - length tail) 0 = rw (is_behind, zeros, zero_bytes (13 - length front)) refl in
    rw (flat_map-append bytes front (behind ++ last), flat_map-append bytes behind last, of_front, mark, of_last)
    (ap (λ (bs : List ℕ). bs ∷ []) (sym (append_assoc tail (0x80 ∷ replicate (55 - length tail) 0) (eight_bytes n)))
    ∙ with_padding_one tail n short)

-- of sixteen zero words, after n words and before the last two, the first becomes the mark
pub words_marked : (n k : ℕ) (behind : List ℕ) → n < 14 → k ≡ 14 - n → behind ≡ take k (drop n (replicate 16 0))
    → slice_set behind 0 0x80 ≡ 0x80 ∷ replicate (13 - n) 0
words_marked n k behind few count is =
    let left : k ≡ suc (13 - n) = omega (arith, count, few) in
    let zeros = take-replicate {X = ℕ} k (16 - n) 0 (omega (arith, count)) in
    rw (is, drop-replicate {X = ℕ} n 16 0, zeros, left) refl
