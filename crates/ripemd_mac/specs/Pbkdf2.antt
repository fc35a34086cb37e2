-- PBKDF2, a key derived from a password and a salt (RFC 8018, section 5.2), in the RFC's names, by any
-- pseudorandom function: PRF P m is that of the message m under the key P.
use Rattle.std.specs.Prelude.{ℕ, ◌-◌, List, ◌++◌, take, map}
use Rattle.std.specs.Int.{w32, to_be_bytes, div_ceil}
use Rattle.std.specs.Int.Bits.{bit_xor}
use Rattle.std.specs.Simd.Lanes.{zip2}
use Rattle.std.specs.List.{range_with_len, flat_map, fold}
use Rattle.std.specs.Fn.{iterate}

-- INT (i): the number i in four bytes, the most significant first
abbrev pub INT : ℕ → List ℕ
INT i = to_be_bytes w32 i

-- U_1, U_2 and so on of block i: U_1 = PRF (P, S || INT (i)), and U_j = PRF (P, U_{j-1})
unfoldable pub U : (PRF : List ℕ → List ℕ → List ℕ) → (P S : List ℕ) → (i j : ℕ) → List ℕ
U PRF P S i j = iterate (PRF P) (j - 1) (PRF P (S ++ INT i))

-- F (P, S, c, i) = U_1 xor U_2 xor .. xor U_c
unfoldable pub F : (PRF : List ℕ → List ℕ → List ℕ) → (P S : List ℕ) → (c i : ℕ) → List ℕ
F PRF P S c i = fold (zip2 bit_xor) (U PRF P S i 1) (map (U PRF P S i) (range_with_len 2 (c - 1)))

-- the key of dkLen bytes: the first of T_1 || T_2 || .. || T_l, where T_i = F (P, S, c, i), and l blocks of
-- hLen bytes are as many as it takes
unfoldable pub pbkdf2 : (PRF : List ℕ → List ℕ → List ℕ) → (hLen : ℕ) → (P S : List ℕ) → (c dkLen : ℕ) → List ℕ
pbkdf2 PRF hLen P S c dkLen = take dkLen (flat_map (F PRF P S c) (range_with_len 1 (div_ceil dkLen hLen)))
