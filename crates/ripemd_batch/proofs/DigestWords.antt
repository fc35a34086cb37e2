-- Words and their bytes: exclusive or, and the message words of a block.
use Rattle.ripemd_block.proofs.Library.{◌≡◌, ℕ, zero, suc, ◌+◌, ◌*◌, ◌/◌, ◌%◌, ◌^◌, ◌-◌, ◌<◌, ◌≤◌, w64, bit_xor, refl, ap, sym, ◌∙◌, arith, List, [], ◌∷◌, ◌++◌, append_assoc, get_or, length, length-append, map, replicate, slice_index, to_le_bytes, zip2, get_or-zip2, length-zip2, from_le_bytes-to_le_bytes_4, xor_shr, xor_mod, flat_map-append, get_or_append_left, get_or-append_right, length-replicate}
use Rattle.std.proofs.Common.{w32}
use Rattle.ripemd_block.proofs.Tables.{value_at}
use Rattle.ripemd_block.specs.Standard.{message_word, word_bytes, with_padding, zero_count}
use Rattle.ripemd_block.specs.Laws.WordBytes.{length-word_bytes}
use Rattle.ripemd_batch.proofs.OneLane.{lane_is, lane_size, lane_word, word_is}
use Rattle.ripemd_batch.specs.Lanes.{HasWords, lane_at, lane_of, padded_after, padding_words}

-- a byte of an exclusive or is that of the bytes
xor_byte : (a b k : ℕ) → bit_xor a b / 2 ^ k % 2 ^ 8 ≡ bit_xor (a / 2 ^ k % 2 ^ 8) (b / 2 ^ k % 2 ^ 8)
xor_byte a b k = ap (λ n. n % 2 ^ 8) (xor_shr a b k) ∙ xor_mod (a / 2 ^ k) (b / 2 ^ k) 8

xor_bytes : (a b : ℕ) → to_le_bytes w32 (bit_xor a b) ≡ zip2 bit_xor (to_le_bytes w32 a) (to_le_bytes w32 b)
xor_bytes a b = rw (xor_mod a b 8, xor_byte a b 8, xor_byte a b 16, xor_byte a b 24) refl

pub xor_word_bytes : (xs ys : List ℕ) → length xs ≡ length ys
    → word_bytes (zip2 bit_xor xs ys) ≡ zip2 bit_xor (word_bytes xs) (word_bytes ys)
xor_word_bytes [] [] same = refl
xor_word_bytes [] (y ∷ ys) same = absurd (omega (arith, same))
xor_word_bytes (x ∷ xs) [] same = absurd (omega (arith, same))
xor_word_bytes (x ∷ xs) (y ∷ ys) same =
    ap (λ bs. bs ++ word_bytes (zip2 bit_xor xs ys)) (xor_bytes x y)
    ∙ ap (λ rest. zip2 bit_xor (to_le_bytes w32 x) (to_le_bytes w32 y) ++ rest) (xor_word_bytes xs ys (omega (arith, same)))

-- so it is for all words of a message
pub xor_lane : {V : Type 0} (words : V → List ℕ) (v a b : List V) (n j : ℕ) → length v ≡ n → length a ≡ n → length b ≡ n
    → ((i : ℕ) → i < n → (d : V) → slice_index (words (get_or v i d)) j
    ≡ bit_xor (slice_index (words (get_or a i d)) j) (slice_index (words (get_or b i d)) j))
    → word_bytes (lane_of n j (map words v)) ≡ zip2 bit_xor (word_bytes (lane_of n j (map words a))) (word_bytes (lane_of n j (map words b)))
xor_lane words v a b n j count of_a of_b same =
    let x : List ℕ = lane_of n j (map words a) in
    let y : List ℕ = lane_of n j (map words b) in
    let size : length x ≡ n = lane_size (map words a) n j in
    let both : length x ≡ length y = size ∙ sym (lane_size (map words b) n j) in
    let differ : zip2 bit_xor x y ≡ lane_of n j (map words v) =
    lane_is words v n j (zip2 bit_xor x y) count (length-zip2 bit_xor x y both ∙ size)
    (λ i h d. get_or-zip2 bit_xor x y i 0 0 0 (omega arith) (omega arith)
    ∙ rw (lane_word words a n j i d of_a h, lane_word words b n j i d of_b h) (sym (same i h d))) in
    ap word_bytes (sym differ) ∙ xor_word_bytes x y both

-- message word i of the bytes of words is word i
pub message_word_of : (words : List ℕ) (i : ℕ) → i < length words → slice_index words i < 2 ^ 32
    → message_word (word_bytes words) i ≡ slice_index words i
message_word_of [] i within fits = absurd (omega (arith, within))
message_word_of (w ∷ words) zero within fits = from_le_bytes-to_le_bytes_4 w fits
message_word_of (w ∷ words) (suc i) within fits =
    let place : 4 * suc i ≡ suc (suc (suc (suc (4 * i)))) = omega arith in
    rw place (message_word_of words i (omega (arith, within)) fits)

-- ---- the last block of a message of words, after one block

-- a word before the padding, and one of the padding
pub word_in_front : (v : List (List ℕ)) (n j i : ℕ) (behind : List ℕ) → i < n → slice_index (lane_of n j v ++ behind) i ≡ lane_at v i j
word_in_front v n j i behind within =
    get_or_append_left (lane_of n j v) behind 0 i (omega (arith, lane_size v n j)) ∙ value_at (λ i. lane_at v i j) n i 0 within

pub word_behind : (v : List (List ℕ)) (n j i : ℕ) (behind : List ℕ) → n ≤ i
    → slice_index (lane_of n j v ++ behind) i ≡ slice_index behind (i - n)
word_behind v n j i behind past = get_or-append_right (lane_of n j v) behind n i 0 (lane_size v n j) past

zero_words : (n : ℕ) → word_bytes (replicate n 0) ≡ replicate (4 * n) 0
zero_words zero = refl
zero_words (suc n) =
    let more : 4 * suc n ≡ suc (suc (suc (suc (4 * n)))) = omega arith in
    rw (more, zero_words n) refl

-- a length that is a word
length_words : (n : ℕ) → n < 2 ^ 32 → word_bytes (n ∷ 0 ∷ []) ≡ to_le_bytes w64 n
length_words n fits =
    let a : n / 4294967296 % 256 ≡ 0 = omega (arith, fits) in
    let b : n / 1099511627776 % 256 ≡ 0 = omega (arith, fits) in
    let c : n / 281474976710656 % 256 ≡ 0 = omega (arith, fits) in
    let d : n / 72057594037927936 % 256 ≡ 0 = omega (arith, fits) in
    rw (a, b, c, d) refl

-- the bytes of the words and of their padding
pub padded_words : (words : List ℕ) (n : ℕ) → length words ≡ n → n ≤ 13
    → padded_after 64 (word_bytes words) ≡ word_bytes (words ++ padding_words n)
unfolding with_padding
padded_words words n many few =
    let size : length (word_bytes words) ≡ 4 * n = omega (arith, length-word_bytes words, many) in
    let zeros : zero_count (4 * n) ≡ suc (suc (suc (4 * (13 - n)))) = omega (arith, few) in
    let bits : 8 * (64 + 4 * n) % 2 ^ 64 ≡ 512 + 32 * n = omega (arith, few) in
    let padding : word_bytes (replicate (13 - n) 0 ++ (512 + 32 * n) ∷ 0 ∷ []) ≡ replicate (4 * (13 - n)) 0 ++ to_le_bytes w64 (512 + 32 * n) =
    flat_map-append (to_le_bytes w32) (replicate (13 - n) 0) ((512 + 32 * n) ∷ 0 ∷ [])
    ∙ ap (λ bs. bs ++ word_bytes ((512 + 32 * n) ∷ 0 ∷ [])) (zero_words (13 - n))
    ∙ ap (λ bs. replicate (4 * (13 - n)) 0 ++ bs) (length_words (512 + 32 * n) (omega (arith, few))) in
    rw (size, zeros, bits, flat_map-append (to_le_bytes w32) words (padding_words n), padding)
    (append_assoc (word_bytes words) (0x80 ∷ replicate (suc (suc (suc (4 * (13 - n))))) 0) (to_le_bytes w64 (512 + 32 * n)))

-- their number
length-padded : (words : List ℕ) (n : ℕ) → length words ≡ n → n ≤ 13 → length (words ++ padding_words n) ≡ 16
length-padded words n many few =
    omega (arith, length-append words (padding_words n), length-append (replicate (13 - n) 0) ((512 + 32 * n) ∷ 0 ∷ []), length-replicate {A = ℕ} (13 - n) 0, many, few)

pub padded_size : (v : List (List ℕ)) (n j : ℕ) → n ≤ 13 → length (padded_after 64 (word_bytes (lane_of n j v))) ≡ 64
padded_size v n j few =
    let words : List ℕ = lane_of n j v in
    rw (padded_words words n (lane_size v n j) few)
    (omega (arith, length-word_bytes (words ++ padding_words n), length-padded words n (lane_size v n j) few))

-- the words of these bytes, if these vectors have them
pub has_padded_words : {V : Type 0} (words : V → List ℕ) (states v : List V) (n j : ℕ) → length v ≡ 16 → n ≤ 13
    → ((i : ℕ) → i < 16 → (d : V) → slice_index (lane_of n j (map words states) ++ padding_words n) i ≡ slice_index (words (get_or v i d)) j)
    → ((i : ℕ) → i < 16 → (d : V) → slice_index (words (get_or v i d)) j < 2 ^ 32)
    → HasWords (map words v) j (padded_after 64 (word_bytes (lane_of n j (map words states))))
has_padded_words words states v n j count few same fit i h =
    let many = lane_size (map words states) n j in
    let all : List ℕ = lane_of n j (map words states) ++ padding_words n in
    let size : length all ≡ 16 = length-padded (lane_of n j (map words states)) n many few in
    rw (padded_words (lane_of n j (map words states)) n many few)
    (sym (word_is words v i j (message_word (word_bytes all) i) (omega arith)
    (λ d. message_word_of all i (omega arith) (rw (same i h d) (fit i h d)) ∙ same i h d)))
