-- Words and their bytes, four each: different words have different bytes.
use Rattle.std.proofs.Common.{◌≡◌, ℕ, zero, suc, ◌+◌, ◌*◌, ◌^◌, ◌<◌, ◌≤◌, rules, refl, sym, ap, ◌∙◌, arith, List, [], ◌∷◌, ◌++◌, length, take, drop, get_or, true}
use Rattle.std.specs.Int.{w32, from_le_bytes}
use Rattle.std.specs.Str.{bytes_eq}
use Rattle.std.specs.List.{All}
use Rattle.std.proofs.lemmas.List.{places, length-drop, length-take-le, get_or-drop, get_or-take}
use Rattle.std.proofs.lemmas.List.FromFn.{fill_by_all}
use Rattle.std.proofs.Math.Seq.{take-add}
use Rattle.std.proofs.lemmas.List.Elements.{All-head, All-tail, All-cons}
use Rattle.std.proofs.lemmas.Slice.Eq.{bytes_eq-Decides}
use Rattle.std.proofs.lemmas.Nat.{le_bytes_4, from_le_bytes-to_le_bytes_4}
use Rattle.ripemd_block.specs.Standard.{word_bytes}
use Rattle.ripemd_block.specs.States.{AreWords}

-- words that are equal by `==` are equal
pub equal_words : (xs ys : List ℕ) → bytes_eq xs ys ≡ true → xs ≡ ys
equal_words xs ys h = (bytes_eq-Decides xs ys).0 h

pub length-word_bytes : (words : List ℕ) → length (word_bytes words) ≡ 4 * length words
length-word_bytes [] = refl
length-word_bytes (w ∷ words) = omega (arith, length-word_bytes words)

pub bytes_of_words : (n : ℕ) (words : List ℕ) → AreWords n words → length (word_bytes words) ≡ 4 * n
bytes_of_words n words fit = omega (arith, length-word_bytes words, fit.count)

-- n words, read from the bytes that begin with theirs
pub words_of : ℕ → List ℕ → List ℕ
words_of zero bytes = []
words_of (suc n) bytes = from_le_bytes w32 (take 4 bytes) ∷ words_of n (drop 4 bytes)

words_of_bytes : (words : List ℕ) → All (λ w. w < 2 ^ 32) words → words_of (length words) (word_bytes words) ≡ words
unfolding words_of
words_of_bytes [] fit = refl
words_of_bytes (w ∷ words) fit =
    let first = from_le_bytes-to_le_bytes_4 w (All-head (λ w. w < 2 ^ 32) w words fit) in
    rw (first, words_of_bytes words (All-tail (λ w. w < 2 ^ 32) w words fit)) refl

pub word_bytes_injective : (n : ℕ) (xs ys : List ℕ) → AreWords n xs → AreWords n ys → word_bytes xs ≡ word_bytes ys → xs ≡ ys
word_bytes_injective n xs ys of_xs of_ys same =
    sym (words_of_bytes xs of_xs.fit) ∙ rw (of_xs.count, same, ← of_ys.count) (words_of_bytes ys of_ys.fit)

-- ---- any bytes are those of words, four for each

-- the first four of some bytes are bytes
first_small : (bytes : List ℕ) → ((i : ℕ) → get_or bytes i 0 < 256) → (i : ℕ) → get_or (take 4 bytes) i 0 < 256
first_small bytes small i = grind (arith, places, small i)

-- reading bytes as words keeps the bytes
pub words_read : (n : ℕ) (bytes : List ℕ) → 4 * n ≤ length bytes → ((i : ℕ) → get_or bytes i 0 < 256)
    → word_bytes (words_of n bytes) ≡ take (4 * n) bytes
unfolding words_of
words_read zero bytes fits small = refl
words_read (suc n) bytes fits small =
    let word = le_bytes_4 (take 4 bytes) _ (length-take-le 4 bytes (omega arith)) (first_small bytes small) refl in
    let rest = words_read n (drop 4 bytes) (omega (arith, length-drop 4 bytes)) (λ i. rw get_or-drop (small (4 + i))) in
    let next : 4 * suc n ≡ 4 + 4 * n = omega arith in
    ap (λ (bs : List ℕ). bs ++ word_bytes (words_of n (drop 4 bytes))) word
    ∙ ap (λ (bs : List ℕ). take 4 bytes ++ bs) rest ∙ rw next (sym (take-add 4 (4 * n) bytes))

pub words_in_range : (n : ℕ) (bytes : List ℕ) → 4 * n ≤ length bytes → ((i : ℕ) → get_or bytes i 0 < 256)
    → AreWords n (words_of n bytes)
unfolding words_of
words_in_range zero bytes fits small = record { count = refl; fit = search rules }
words_in_range (suc n) bytes fits small =
    let rest = words_in_range n (drop 4 bytes) (omega (arith, length-drop 4 bytes)) (λ i. rw get_or-drop (small (4 + i))) in
    let four = fill_by_all (λ i. get_or bytes i 0) (take 4 bytes) 4 0 (length-take-le 4 bytes (omega arith)) (λ i within. get_or-take 4 bytes i 0 within) in
    let word : from_le_bytes w32 (take 4 bytes) < 2 ^ 32 = rw four (omega (arith, small 0, small 1, small 2, small 3)) in
    record { count = omega (arith, rest.count); fit = All-cons (λ w. w < 2 ^ 32) _ _ word rest.fit }
