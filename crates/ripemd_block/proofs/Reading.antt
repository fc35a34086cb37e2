-- Message words, read as vectors.
use Rattle.ripemd_block.proofs.Library.{◌≡◌, ℕ, ◌<◌, ◌≤◌, ◌+◌, ◌*◌, ◌-◌, List, length, take, drop, ap, ◌∙◌, sym, arith, from_le_bytes, chunk, length-chunk, drop-take, take-take, drop-drop}
use Rattle.std.proofs.Common.{w32}
use Rattle.std.specs.Simd.Lanes.{number_l}
use Rattle.ripemd_block.specs.Standard.{message_word}
use Rattle.ripemd_block.proofs.Tables.{elements}

-- the number that four bytes write, least first, as vectors and as words have it
four_bytes : (xs : List ℕ) → length xs ≡ 4 → number_l 256 xs ≡ from_le_bytes w32 xs
four_bytes xs size = rw (elements 4 0 xs size) (omega arith)

-- bytes 4 k to 4 k + 3 of those from 16 i on
within : (block : List ℕ) (i k : ℕ) → k < 4
    → chunk (4 * k) 4 (chunk (16 * i) 16 block) ≡ take 4 (drop (4 * (4 * i + k)) block)
within block i k small =
    let rest : 4 * k + (16 - 4 * k) ≡ 16 = omega arith in
    let place : 16 * i + 4 * k ≡ 4 * (4 * i + k) = omega arith in
    ap (λ (n : ℕ). take 4 (drop (4 * k) (take n (drop (16 * i) block)))) (sym rest)
    ∙ ap (take 4) (drop-take (4 * k) (16 - 4 * k) (drop (16 * i) block))
    ∙ take-take 4 (16 - 4 * k) (drop (4 * k) (drop (16 * i) block)) (omega arith)
    ∙ ap (take 4) (drop-drop (4 * k) (16 * i) block ∙ ap (λ (n : ℕ). drop n block) place)

-- message word j, from its bytes
pub word_of_bytes : (block : List ℕ) (j : ℕ) → 4 * j + 4 ≤ length block
    → number_l 256 (chunk (4 * j) 4 block) ≡ message_word block j
word_of_bytes block j size = four_bytes (take 4 (drop (4 * j) block)) (length-chunk (4 * j) 4 block size)

pub word_in_chunk : (block : List ℕ) (i k : ℕ) → k < 4 → 16 * i + 16 ≤ length block
    → number_l 256 (chunk (4 * k) 4 (chunk (16 * i) 16 block)) ≡ message_word block (4 * i + k)
word_in_chunk block i k small size =
    ap (number_l 256) (within block i k small)
    ∙ word_of_bytes block (4 * i + k) (omega arith)
