-- What the steps of the two lines read (1996): which message word a step takes, by how many bits it
-- rotates, and its round's constant and function. Rounds r and steps i are counted from 0.
use Rattle.std.specs.Prelude.{ℕ, zero, suc, ◌+◌, ◌-◌, ◌*◌, ◌%◌, ◌^◌, nat_le, bit_and, bit_or, bit_xor, if◌then◌else◌, List, [], ◌∷◌, slice_index, slice_index_or}
use Rattle.std.specs.Fn.{iterate}
use Rattle.std.specs.Int.{w32, bit_not}

-- ---- the order of the message words (1996, ordering of the message words)

-- the permutation ρ of the sixteen message words
abbrev pub rho : ℕ → ℕ
rho i = slice_index (7 ∷ 4 ∷ 13 ∷ 1 ∷ 10 ∷ 6 ∷ 15 ∷ 3 ∷ 12 ∷ 0 ∷ 9 ∷ 5 ∷ 2 ∷ 14 ∷ 11 ∷ 8 ∷ []) i

-- the permutation π of the sixteen message words
abbrev pub pi : ℕ → ℕ
pi i = (9 * i + 5) % 16

-- ---- the rotations (1996, shifts)

-- by how many bits a step rotates, a row for each round, by the number of its message word; both
-- lines use the one table
abbrev pub rotations : List (List ℕ)
rotations =
    (11 ∷ 14 ∷ 15 ∷ 12 ∷ 5 ∷ 8 ∷ 7 ∷ 9 ∷ 11 ∷ 13 ∷ 14 ∷ 15 ∷ 6 ∷ 7 ∷ 9 ∷ 8 ∷ [])
    ∷ (12 ∷ 13 ∷ 11 ∷ 15 ∷ 6 ∷ 9 ∷ 9 ∷ 7 ∷ 12 ∷ 15 ∷ 11 ∷ 13 ∷ 7 ∷ 8 ∷ 7 ∷ 7 ∷ [])
    ∷ (13 ∷ 15 ∷ 14 ∷ 11 ∷ 7 ∷ 7 ∷ 6 ∷ 8 ∷ 13 ∷ 14 ∷ 13 ∷ 12 ∷ 5 ∷ 5 ∷ 6 ∷ 9 ∷ [])
    ∷ (14 ∷ 11 ∷ 12 ∷ 14 ∷ 8 ∷ 6 ∷ 5 ∷ 5 ∷ 15 ∷ 12 ∷ 15 ∷ 14 ∷ 9 ∷ 9 ∷ 8 ∷ 6 ∷ [])
    ∷ (15 ∷ 12 ∷ 13 ∷ 13 ∷ 9 ∷ 5 ∷ 8 ∷ 6 ∷ 14 ∷ 11 ∷ 12 ∷ 11 ∷ 8 ∷ 6 ∷ 5 ∷ 5 ∷ [])
    ∷ []

-- by how many bits a step of round r that takes message word j rotates
abbrev pub rotation : ℕ → ℕ → ℕ
rotation r j = slice_index (slice_index_or rotations r []) j

-- ---- the constants (1996, constants)

-- k with its lower bits found one by one from the highest down: each is set if the e-th power of the
-- sum is at most n
abbrev pub root_from : ℕ → ℕ → ℕ → ℕ → ℕ
root_from e n zero k = k
root_from e n (suc bits) k = root_from e n bits (if nat_le ((k + 2 ^ bits) ^ e) n then k + 2 ^ bits else k)

-- the greatest whole number below 2 ^ 32 whose e-th power is at most n
abbrev pub whole_root : ℕ → ℕ → ℕ
whole_root e n = root_from e n 32 0

-- the first four primes
abbrev pub prime : ℕ → ℕ
prime i = slice_index (2 ∷ 3 ∷ 5 ∷ 7 ∷ []) i

-- 2 ^ 30 times the square root of prime i, rounded down
abbrev pub square_root_constant : ℕ → ℕ
square_root_constant i = whole_root 2 (prime i * 2 ^ 60)

-- 2 ^ 30 times the cube root of prime i, rounded down
abbrev pub cube_root_constant : ℕ → ℕ
cube_root_constant i = whole_root 3 (prime i * 2 ^ 90)

-- ---- the Boolean functions of three words, bit by bit (1996, Boolean functions)

-- x ^ y ^ z
abbrev pub f0 : ℕ → ℕ → ℕ → ℕ
f0 x y z = bit_xor (bit_xor x y) z

-- (x & y) | (!x & z)
abbrev pub f1 : ℕ → ℕ → ℕ → ℕ
f1 x y z = bit_or (bit_and x y) (bit_and (bit_not w32 x) z)

-- (x | !y) ^ z
abbrev pub f2 : ℕ → ℕ → ℕ → ℕ
f2 x y z = bit_xor (bit_or x (bit_not w32 y)) z

-- (x & z) | (y & !z)
abbrev pub f3 : ℕ → ℕ → ℕ → ℕ
f3 x y z = bit_or (bit_and x z) (bit_and y (bit_not w32 z))

-- x ^ (y | !z)
abbrev pub f4 : ℕ → ℕ → ℕ → ℕ
f4 x y z = bit_xor x (bit_or y (bit_not w32 z))

-- Boolean function number j
abbrev pub boolean_function : ℕ → ℕ → ℕ → ℕ → ℕ
boolean_function j = slice_index_or (f0 ∷ f1 ∷ f2 ∷ f3 ∷ f4 ∷ []) j f0

-- ---- the two lines (1996, pseudo-code)

-- a line: the number of the message word that each round and step takes, and each round's constant
-- and Boolean function
pub record Line : Type 0 where
  pub word_number : ℕ → ℕ → ℕ
  pub constant : ℕ → ℕ
  pub function : ℕ → ℕ → ℕ → ℕ → ℕ

-- the left line: at step i of round r it takes word ρ ^ r (i); no constant in round 0, and then the
-- square roots in turn; the functions in order
abbrev pub left_line : Line
left_line = record {
  word_number = λ r i. iterate rho r i;
  constant = λ r. if nat_le 1 r then square_root_constant (r - 1) else 0;
  function = boolean_function;
}

-- the right line of a variant with this many rounds: at step i of round r it takes word
-- ρ ^ r (π (i)); the cube roots in turn, and no constant in the last round; the functions in the
-- opposite order
abbrev pub right_line : ℕ → Line
right_line rounds = record {
  word_number = λ r i. iterate rho r (pi i);
  constant = λ r. if nat_le (r + 2) rounds then cube_root_constant r else 0;
  function = λ r. boolean_function (rounds - 1 - r);
}
