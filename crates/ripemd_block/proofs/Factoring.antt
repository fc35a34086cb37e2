-- A Boolean function that the code computes otherwise than it is defined.
use Rattle.ripemd_block.proofs.Library.{◌≡◌, ℕ, ◌<◌, ◌+◌, ◌^◌, bit_and, bit_xor, arith, w32, bit_not, or_disjoint, and_le_l, and_le_r, or_of_32, xor_of_32, same_from_bits_below, bit_at_and, bit_at_or, bit_at_xor, bit_at_not, bit_at-lt, bit_at-zero}
use Rattle.ripemd_block.specs.Standard.{◌⊞◌, f1, f3}

pub f1_factored : (x y z : ℕ) → x < 2 ^ 32 → z < 2 ^ 32 → bit_xor (bit_and x (bit_xor y z)) z ≡ f1 x y z
f1_factored x y z hx hz =
    let chosen : bit_and x (bit_xor y z) < 2 ^ 32 = omega (arith, and_le_l x (bit_xor y z)) in
    let first : bit_and x y < 2 ^ 32 = omega (arith, and_le_l x y) in
    let second : bit_and (bit_not w32 x) z < 2 ^ 32 = omega (arith, and_le_r (bit_not w32 x) z) in
    same_from_bits_below 32 _ _ (xor_of_32 _ _ chosen hz) (or_of_32 _ _ first second)
    (λ i h. simp (bit_at_xor, bit_at_and, bit_at_or, bit_at_not w32 x i hx h)
    (omega (arith, bit_at-lt x i, bit_at-lt y i, bit_at-lt z i)))

-- the two parts of f3 have no bit in common, so that they may be added one after the other
pub f3_in_parts : (u x y z : ℕ) → z < 2 ^ 32 → u ⊞ bit_and y (bit_not w32 z) ⊞ bit_and x z ≡ u ⊞ f3 x y z
f3_in_parts u x y z hz =
    let first : bit_and (bit_and x z) (bit_and y (bit_not w32 z)) < 2 ^ 32 =
    omega (arith, and_le_l (bit_and x z) (bit_and y (bit_not w32 z)), and_le_r x z) in
    let apart : bit_and (bit_and x z) (bit_and y (bit_not w32 z)) ≡ 0 =
    same_from_bits_below 32 _ _ first (omega arith)
    (λ i h. simp (bit_at_and, bit_at_not w32 z i hz h, bit_at-zero)
    (omega (arith, bit_at-lt x i, bit_at-lt y i, bit_at-lt z i))) in
    let sum : f3 x y z ≡ bit_and x z + bit_and y (bit_not w32 z) = or_disjoint _ _ apart in
    rw sum (omega arith)
