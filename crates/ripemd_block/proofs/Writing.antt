-- Bytes written as their last and their first, which may overlap.
use Rattle.ripemd_block.proofs.Library.{◌≡◌, ℕ, suc, ◌+◌, ◌-◌, ◌*◌, ◌/◌, ◌%◌, ◌<◌, ◌≤◌, List, [], ◌∷◌, ◌++◌, length, take, drop, arith, refl, ◌∙◌, sym, ap, append_assoc, take-append-drop, length-drop, length-take-le, drop-drop, digits_l, number_l, Each1, drop-append-add, drop-append-le}
use Rattle.ripemd_block.specs.Standard.{word_bytes}

-- the n bytes from m on are written, and then the first n
pub ends_written : (n m : ℕ) (place bytes : List ℕ) → m + n ≡ length bytes → length bytes ≤ 2 * n → length bytes ≤ length place
    → take n bytes ++ drop n (take m place ++ (drop m bytes ++ drop n (drop m place))) ≡ bytes ++ drop (length bytes) place
ends_written n m place bytes all most room =
    let rest : List ℕ = drop (length bytes) place in
    let left : drop n (drop m place) ≡ rest = drop-drop n m place ∙ ap (λ (i : ℕ). drop i place) all in
    let size = length-take-le m place (omega (arith, all, room)) in
    let over : drop n (take m place ++ (drop m bytes ++ rest)) ≡ drop n bytes ++ rest =
    ap (λ (i : ℕ). drop i (take m place ++ (drop m bytes ++ rest))) (omega (arith, size, all, most))
    ∙ drop-append-add (take m place) (drop m bytes ++ rest) (n - m)
    ∙ drop-append-le (n - m) (drop m bytes) rest (omega (arith, length-drop m bytes, all))
    ∙ ap (λ (bs : List ℕ). bs ++ rest) (drop-drop (n - m) m bytes ∙ ap (λ (i : ℕ). drop i bytes) (omega (arith, all, most))) in
    rw (left, over) (sym (append_assoc (take n bytes) (drop n bytes) rest) ∙ ap (λ (bs : List ℕ). bs ++ rest) (take-append-drop n bytes))

-- ---- the bytes of a vector of words

pub words_narrowed : (words : List ℕ) → Each1 (λ w. w < 4294967296) words
    → digits_l 256 (4 * length words) (number_l 4294967296 words) ≡ word_bytes words
words_narrowed [] fit = refl
words_narrowed (w ∷ words) fit =
    let next : 4 * suc (length words) ≡ suc (suc (suc (suc (4 * length words)))) = omega arith in
    let left : ℕ = number_l 4294967296 words in
    let all : ℕ = w + 4294967296 * left in
    let rest : ℕ → List ℕ = digits_l 256 (4 * length words) in
    let small : w < 4294967296 = fit.0 in
    let first : all % 256 ≡ w % 256 = omega arith in
    let second : all / 256 % 256 ≡ w / 256 % 256 = omega (arith, small) in
    let third : all / 256 / 256 % 256 ≡ w / 65536 % 256 = omega (arith, small) in
    let fourth : all / 256 / 256 / 256 % 256 ≡ w / 16777216 % 256 = omega (arith, small) in
    let last : all / 256 / 256 / 256 / 256 ≡ left = omega (arith, small) in
    let more : rest (all / 256 / 256 / 256 / 256) ≡ word_bytes words = ap rest last ∙ words_narrowed words fit.1 in
    rw next (cc)
