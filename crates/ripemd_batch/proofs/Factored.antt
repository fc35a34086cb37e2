-- Boolean functions 2, 3 and 4 as the code computes them, and a word that a mask selects.
use Rattle.ripemd_block.proofs.Library.{◌≡◌, ℕ, ◌<◌, ◌^◌, ◌-◌, bit_and, bit_or, bit_xor, arith, refl, ◌∙◌, mod-eq_of_lt, w32, bit_not, xor_assoc, xor_zero_r, xor_self, and_comm, and_le_l, and_mask, or_of_32, xor_comm, xor_of_32, same_from_bits_below, bit_at_and, bit_at_or, bit_at_xor, bit_at_not, bit_at-lt}
use Rattle.ripemd_block.specs.Standard.{f2, f3, f4}
use Rattle.ripemd_block.proofs.Factoring.{f1_factored}

-- function 3 is function 1 with its words rotated
pub f3_factored : (x y z : ℕ) → z < 2 ^ 32 → y < 2 ^ 32 → bit_xor (bit_and z (bit_xor x y)) y ≡ f3 x y z
f3_factored x y z hz hy =
    rw (f1_factored z x y hz hy, and_comm z x, and_comm (bit_not w32 z) y) refl

-- functions 2 and 4 are complements
pub f2_complemented : (x y z : ℕ) → x < 2 ^ 32 → y < 2 ^ 32 → z < 2 ^ 32
    → bit_not w32 (bit_xor (bit_and y (bit_not w32 x)) z) ≡ f2 x y z
f2_complemented x y z hx hy hz =
    let without : bit_and y (bit_not w32 x) < 2 ^ 32 = omega (arith, and_le_l y (bit_not w32 x)) in
    let all : bit_xor (bit_and y (bit_not w32 x)) z < 2 ^ 32 = xor_of_32 _ _ without hz in
    let other : bit_not w32 y < 2 ^ 32 = omega arith in
    same_from_bits_below 32 _ _ (omega arith) (xor_of_32 _ _ (or_of_32 _ _ hx other) hz)
    (λ i h. simp (
      bit_at_not w32 (bit_xor (bit_and y (bit_not w32 x)) z) i all h,
      bit_at_xor,
      bit_at_and,
      bit_at_or,
      bit_at_not w32 x i hx h,
      bit_at_not w32 y i hy h,
    )
    (omega (arith, bit_at-lt x i, bit_at-lt y i, bit_at-lt z i)))

pub f4_complemented : (x y z : ℕ) → x < 2 ^ 32 → y < 2 ^ 32 → z < 2 ^ 32
    → bit_not w32 (bit_xor (bit_and z (bit_not w32 y)) x) ≡ f4 x y z
f4_complemented x y z hx hy hz =
    f2_complemented y z x hy hz hx ∙ xor_comm (bit_or y (bit_not w32 z)) x

-- all bits select the new word, and none the old one
pub selects_new : (n o : ℕ) → n < 2 ^ 32 → o < 2 ^ 32 → bit_xor o (bit_and (bit_xor n o) 0xffff_ffff) ≡ n
selects_new n o hn ho =
    let kept : bit_and (bit_xor n o) (2 ^ 32 - 1) ≡ bit_xor n o =
    and_mask (bit_xor n o) 32 ∙ mod-eq_of_lt (xor_of_32 n o hn ho) in
    rw (kept, xor_comm n o, ← xor_assoc o o n, xor_self o) (xor_comm 0 n ∙ xor_zero_r n)

pub selects_old : (x o : ℕ) → bit_xor o (bit_and x 0) ≡ o
selects_old x o = rw (and_comm x 0) (xor_zero_r o)
