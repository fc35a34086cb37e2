-- The blocks of a message with its padding, by their places.
use Rattle.ripemd_block.proofs.Library.{◌≡◌, ℕ, zero, suc, ◌+◌, ◌-◌, ◌*◌, ◌/◌, ◌%◌, ◌^◌, ◌<◌, ◌≤◌, refl, sym, ap, ◌∙◌, arith, List, [], ◌∷◌, ◌++◌, length, take, drop, replicate, Some, get_or, flat_map, first_chunks, length-append, length-replicate, length-drop, length-take-le, append_assoc, take_at, drop_at, drop-drop, take-append-drop, get_or_at, get_or_append_left, slice_get-get_or}
use Rattle.std.specs.List.{slice_get}
use Rattle.ripemd_block.specs.Standard.{eight_bytes, zero_count, with_padding, padded_message, blocks, partial_block}
use Rattle.ripemd_block.specs.Laws.Blocks.{length-blocks, blocks_joined, blocks_of_one}
use Rattle.ripemd_block.specs.Laws.Pieces.{with_padding_rest}
use Rattle.ripemd_block.specs.Laws.Saved.{eight_bytes_injective}

pub length-padded_message : (m : List ℕ) → length (padded_message m) ≡ length m + 9 + zero_count (length m)
unfolding with_padding
length-padded_message m =
    let zeros : List ℕ = replicate (zero_count (length m)) 0 in
    let end : List ℕ = eight_bytes (8 * length m % 2 ^ 64) in
    let count = length-replicate {A = ℕ} (zero_count (length m)) 0 in
    omega (arith, length-append (m ++ 0x80 ∷ zeros) end, length-append m (0x80 ∷ zeros), count)

pub length-padded_blocks : (m : List ℕ)
    → length (blocks (padded_message m)) ≡ (length m + 9 + zero_count (length m)) / 64
length-padded_blocks m = length-blocks (padded_message m) ∙ ap (λ n. n / 64) (length-padded_message m)

pub ruleset counts = (length-padded_blocks, length-blocks)

-- ---- the block at a place

-- a whole block of the message
pub whole_block : (m : List ℕ) (place : ℕ) → place < length (blocks m)
    → Some (get_or (blocks m) place []) ≡ slice_get (blocks (padded_message m)) place
whole_block m place within =
    let rest = blocks (with_padding (partial_block m) (8 * length m % 2 ^ 64)) in
    let all = slice_get-get_or (blocks m ++ rest) place [] (omega (arith, length-append (blocks m) rest)) in
    rw (with_padding_rest m (8 * length m % 2 ^ 64), all, get_or_append_left (blocks m) rest [] place within) refl

slice_get-append : {X : Type 0} (xs ys : List X) (i j : ℕ) → i ≡ length xs + j → slice_get (xs ++ ys) i ≡ slice_get ys j
slice_get-append [] ys i j h = let same : i ≡ j = omega arith in rw same refl
slice_get-append (x ∷ xs) ys zero j h = absurd (omega arith)
slice_get-append (x ∷ xs) ys (suc i) j h = slice_get-append xs ys i j (omega arith)

-- one of the blocks after them, or none
pub last_block : (m : List ℕ) (place : ℕ) {tail : List ℕ} {bit_length : ℕ} (last : List (List ℕ))
    → last ≡ blocks (with_padding tail bit_length)
    → tail ≡ partial_block m → bit_length ≡ 8 * length m % 2 ^ 64 → length (blocks m) ≤ place
    → slice_get last (place - length (blocks m)) ≡ slice_get (blocks (padded_message m)) place
last_block m place last of_last tail_is length_is behind =
    let n : ℕ = 8 * length m % 2 ^ 64 in
    let rest = blocks (with_padding (partial_block m) n) in
    let j : ℕ = place - length (blocks m) in
    rw (with_padding_rest m n, slice_get-append (blocks m) rest place j (omega arith))
    (rw (of_last, tail_is, length_is) refl)

-- ---- the parts of a padded message, and whole blocks

start-padded_message : (m : List ℕ) → take (length m) (padded_message m) ≡ m
unfolding with_padding
start-padded_message m = simp append_assoc (take_at m _ (length m) refl)

-- it ends in the length in bits
pub end_padded_message : (m : List ℕ)
    → drop (length (padded_message m) - 8) (padded_message m) ≡ eight_bytes (8 * length m % 2 ^ 64)
unfolding with_padding
end_padded_message m =
    let front : List ℕ = m ++ 0x80 ∷ replicate (zero_count (length m)) 0 in
    let end : List ℕ = eight_bytes (8 * length m % 2 ^ 64) in
    let place : length front ≡ length (front ++ end) - 8 = omega (arith, length-append front end) in
    drop_at front end (length (front ++ end) - 8) place

pub whole_padded_message : (m : List ℕ) → length (padded_message m) ≡ 64 * length (blocks (padded_message m))
whole_padded_message m = omega (arith, length-padded_message m, length-padded_blocks m)

-- the last 8 bytes of whole blocks are those of the last block
end_of_last_block : (xs : List ℕ) (n : ℕ) → length xs ≡ 64 * suc n
    → drop 56 (get_or (blocks xs) (length (blocks xs) - 1) []) ≡ drop (length xs - 8) xs
end_of_last_block xs n size =
    let front : List ℕ = take (64 * n) xs in
    let last : List ℕ = drop (64 * n) xs in
    let size_front : length front ≡ n * 64 = omega (arith, length-take-le (64 * n) xs (omega arith)) in
    let size_last : length last ≡ 64 = omega (arith, length-drop (64 * n) xs) in
    let all : blocks xs ≡ blocks front ++ last ∷ [] =
    ap blocks (sym (take-append-drop (64 * n) xs)) ∙ blocks_joined n front last size_front
    ∙ ap (λ (bs : List (List ℕ)). blocks front ++ bs) (blocks_of_one last size_last) in
    let place : length (blocks front) ≡ length (blocks xs) - 1 = omega (arith, length-blocks xs, length-blocks front) in
    let end : 64 * n + 56 ≡ length xs - 8 = omega arith in
    rw (← place, all, get_or_at (blocks front) last [] [] (length (blocks front)) refl, drop-drop 56 (64 * n) xs, end) refl

-- whole chunks, joined, are the bytes
joined_chunks : (k : ℕ) (xs : List ℕ) → length xs ≡ 64 * k → flat_map (λ x. x) (first_chunks 64 k xs) ≡ xs
joined_chunks zero [] size = refl
joined_chunks zero (x ∷ xs) size = absurd (omega arith)
joined_chunks (suc k) xs size =
    rw (joined_chunks k (drop 64 xs) (omega (arith, length-drop 64 xs))) (take-append-drop 64 xs)

-- ---- messages with the same padding

pub one_message : (a b : List ℕ) → padded_message a ≡ padded_message b → a ≡ b
one_message a b same =
    let size : length (padded_message a) ≡ length (padded_message b) = ap length same in
    let ends : eight_bytes (8 * length a % 2 ^ 64) ≡ eight_bytes (8 * length b % 2 ^ 64) =
    sym (end_padded_message a) ∙ rw same (end_padded_message b) in
    let numbers = eight_bytes_injective (8 * length a % 2 ^ 64) (8 * length b % 2 ^ 64) (omega arith) (omega arith) ends in
    let count : length a ≡ length b = omega (arith, length-padded_message a, length-padded_message b) in
    sym (start-padded_message a) ∙ rw (same, count) (start-padded_message b)

-- messages whose padded messages have the same blocks are equal
pub one_message_of_blocks : (a b : List ℕ) → blocks (padded_message a) ≡ blocks (padded_message b) → a ≡ b
unfolding blocks
one_message_of_blocks a b same = one_message a b (sym (joined a) ∙ ap (flat_map (λ x. x)) same ∙ joined b)
  where
    joined : (m : List ℕ) → flat_map (λ x. x) (blocks (padded_message m)) ≡ padded_message m
    joined m =
        joined_chunks (length (padded_message m) / 64) (padded_message m) (omega (arith, length-padded_message m))

-- messages shorter than 2 ^ 61 bytes with the same last block have the same length
pub one_length : (a b : List ℕ) → length a < 2 ^ 61 → length b < 2 ^ 61
    → get_or (blocks (padded_message a)) (length (blocks (padded_message a)) - 1) []
    ≡ get_or (blocks (padded_message b)) (length (blocks (padded_message b)) - 1) [] → length a ≡ length b
one_length a b ha hb same =
    let ends : eight_bytes (8 * length a % 2 ^ 64) ≡ eight_bytes (8 * length b % 2 ^ 64) =
    sym (end_of a) ∙ ap (drop 56) same ∙ end_of b in
    let numbers = eight_bytes_injective (8 * length a % 2 ^ 64) (8 * length b % 2 ^ 64) (omega arith) (omega arith) ends in
    omega arith
  where
    end_of : (m : List ℕ) → drop 56 (get_or (blocks (padded_message m)) (length (blocks (padded_message m)) - 1) [])
        ≡ eight_bytes (8 * length m % 2 ^ 64)
    end_of m =
        let size = whole_padded_message m in
        let some : 0 < length (blocks (padded_message m)) = omega (arith, length-padded_message m) in
        end_of_last_block (padded_message m) (length (blocks (padded_message m)) - 1) (omega arith)
        ∙ end_padded_message m
