-- The compression functions of RIPEMD-128, RIPEMD-160, RIPEMD-256 and RIPEMD-320 (1996).
use Rattle.std.specs.Prelude.{ℕ, zero, suc, ◌-◌, Option, Some, None, List, [], ◌∷◌, ◌++◌, length, take, drop, slice_get, slice_index, slice_set}
use Rattle.ripemd_block.specs.Standard.Words.{◌⊞◌, rol, message_word}
use Rattle.ripemd_block.specs.Standard.Schedule.{Line, left_line, right_line, rotation}

-- ---- the four variants

-- what the four variants differ in: how many registers a line has and how many rounds it runs, the
-- start words, the register that the lines exchange after each round, if they do, and how the old
-- state and the last registers of both lines make the new state
pub record Parameters : Type 0 where
  pub registers : ℕ
  pub rounds : ℕ
  pub start : List ℕ
  pub exchanges : List ℕ
  pub combination : List ℕ → List ℕ → List ℕ → List ℕ

-- the start words of a line of five registers; a line of four has the first four (1996, pseudo-code)
abbrev pub start_words : List ℕ
start_words = 0x67452301 ∷ 0xefcdab89 ∷ 0x98badcfe ∷ 0x10325476 ∷ 0xc3d2e1f0 ∷ []

-- the start words of the right line, where it has its own (1996, extensions to 256 and 320 bits)
abbrev pub second_start_words : List ℕ
second_start_words = 0x76543210 ∷ 0xfedcba98 ∷ 0x89abcdef ∷ 0x01234567 ∷ 0x3c2d1e0f ∷ []

-- two lists of words, added word by word
abbrev pub word_sums : List ℕ → List ℕ → List ℕ
word_sums (x ∷ xs) (y ∷ ys) = (x ⊞ y) ∷ word_sums xs ys
word_sums _ _ = []

-- the list rotated by k places to the left
abbrev pub from_place : ℕ → List ℕ → List ℕ
from_place k xs = drop k xs ++ take k xs

-- the new state of RIPEMD-128 and RIPEMD-160, where both lines start from the whole state: the state,
-- the left and the right registers, rotated by 1, 2 and 3 places, and added word by word.
-- Of five words that is h1 + C + D', h2 + D + E', h3 + E + A', h4 + A + B', h0 + B + C'
-- (1996, pseudo-code)
abbrev pub joint_state : List ℕ → List ℕ → List ℕ → List ℕ
joint_state state left right = word_sums (word_sums (from_place 1 state) (from_place 2 left)) (from_place 3 right)

-- the new state of RIPEMD-256 and RIPEMD-320, of which each line works on a half: the left
-- registers are added to the first half, and the right ones to the second (1996, extensions)
abbrev pub double_state : List ℕ → List ℕ → List ℕ → List ℕ
double_state state left right = word_sums state (left ++ right)

abbrev pub ripemd128 : Parameters
ripemd128 = record {
  registers = 4;
  rounds = 4;
  start = take 4 start_words;
  exchanges = [];
  combination = joint_state;
}

abbrev pub ripemd160 : Parameters
ripemd160 = record {
  registers = 5;
  rounds = 5;
  start = start_words;
  exchanges = [];
  combination = joint_state;
}

-- after the rounds 0 to 3 the lines exchange A, B, C and D in turn (1996, extensions)
abbrev pub ripemd256 : Parameters
ripemd256 = record {
  registers = 4;
  rounds = 4;
  start = take 4 start_words ++ take 4 second_start_words;
  exchanges = 0 ∷ 1 ∷ 2 ∷ 3 ∷ [];
  combination = double_state;
}

-- after the rounds 0 to 4 the lines exchange B, D, A, C and E in turn (1996, extensions)
abbrev pub ripemd320 : Parameters
ripemd320 = record {
  registers = 5;
  rounds = 5;
  start = start_words ++ second_start_words;
  exchanges = 1 ∷ 3 ∷ 0 ∷ 2 ∷ 4 ∷ [];
  combination = double_state;
}

-- ---- steps and rounds (1996, operations in one step)

-- a step with the Boolean function f, the message word x, the constant k and the rotation by s bits
-- takes the registers A B C D to D T B C, where T = rol(A + f(B, C, D) + X + K, s), and A B C D E
-- to E T B rol(C, 10) D, where T = rol(A + f(B, C, D) + X + K, s) + E
abbrev pub step : (ℕ → ℕ → ℕ → ℕ) → ℕ → ℕ → ℕ → List ℕ → List ℕ
step f x k s (a ∷ b ∷ c ∷ d ∷ []) = d ∷ rol (a ⊞ f b c d ⊞ x ⊞ k) s ∷ b ∷ c ∷ []
step f x k s (a ∷ b ∷ c ∷ d ∷ e ∷ []) = e ∷ (rol (a ⊞ f b c d ⊞ x ⊞ k) s ⊞ e) ∷ b ∷ rol c 10 ∷ d ∷ []
step f x k s _ = []

-- the registers of a line after the first n steps of its round r on a block
unfoldable pub registers_after : Line → List ℕ → ℕ → ℕ → List ℕ → List ℕ
registers_after line block r zero registers = registers
registers_after line block r (suc n) registers =
    let j = line.word_number r n in
    step (line.function r) (message_word block j) (line.constant r) (rotation r j)
    (registers_after line block r n registers)

-- the registers of a line after its round r, which has sixteen steps
abbrev pub round : Line → List ℕ → ℕ → List ℕ → List ℕ
round line block r registers = registers_after line block r 16 registers

-- ---- both lines (1996, pseudo-code)

-- the registers of the two lines
pub record Lines : Type 0 where
  pub left : List ℕ
  pub right : List ℕ

-- the lines with one register exchanged between them, if any
abbrev pub exchange : Option ℕ → Lines → Lines
exchange None l = l
exchange (Some j) l = record {
  left = slice_set l.left j (slice_index l.right j);
  right = slice_set l.right j (slice_index l.left j);
}

-- the lines after their first r rounds on a block, with the exchange after each
unfoldable pub lines_after : Parameters → List ℕ → ℕ → Lines → Lines
lines_after v block zero l = l
lines_after v block (suc r) l =
    let before = lines_after v block r l in
    exchange (slice_get v.exchanges r) (record {
      left = round left_line block r before.left;
      right = round (right_line v.rounds) block r before.right;
    })

-- where the lines start: the left one from the first registers of the state, and the right one from
-- the last; in RIPEMD-128 and RIPEMD-160 both are the whole state
abbrev pub lines_from : Parameters → List ℕ → Lines
lines_from v state = record {
  left = take v.registers state;
  right = drop (length state - v.registers) state;
}

-- the state after one block: both lines run through their rounds from where they start, and the
-- combination takes them in
unfoldable pub compress : Parameters → List ℕ → List ℕ → List ℕ
compress v state block =
    let end = lines_after v block v.rounds (lines_from v state) in
    v.combination state end.left end.right
