-- A rotation of each word by two shifts.
use Rattle.ripemd_block.proofs.Library.{◌≡◌, ℕ, ◌<◌, ◌-◌, ◌*◌, ◌/◌, ◌%◌, ◌^◌, List, length, replicate, slice_index, bit_or, arith, refl, ◌∙◌, zip2, zip2_splat, zip2-map, get_or-map}
use Rattle.ripemd_block.specs.Standard.{rol}

pub shifts_rotate : (k : ℕ) → 0 < k → k < 32 → (n : ℕ) (a : List ℕ) → length a ≡ n → (j : ℕ) → j < n
    → slice_index (zip2 bit_or (zip2 (λ x n. x * 2 ^ n % 2 ^ 32) a (replicate n k)) (zip2 (λ x n. x / 2 ^ n) a (replicate n (32 - k)))) j
    ≡ rol (slice_index a j) k
shifts_rotate k low high n a size j h =
    let left : k % 32 ≡ k = omega arith in
    let right : (32 - k) % 32 ≡ 32 - k = omega arith in
    rw (
      zip2_splat (λ x n. x * 2 ^ n % 2 ^ 32) a n k size,
      zip2_splat (λ x n. x / 2 ^ n) a n (32 - k) size,
      zip2-map bit_or (λ x. x * 2 ^ k % 2 ^ 32) (λ x. x / 2 ^ (32 - k)) a,
    )
    (get_or-map (λ x. bit_or (x * 2 ^ k % 2 ^ 32) (x / 2 ^ (32 - k))) a j 0 0 (omega (arith, size, h)) ∙ rw (left, right) refl)
