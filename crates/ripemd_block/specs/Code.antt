-- What the code's own types stand for: the message words that the steps of both lines take, with the constants of the
-- rounds, and registers as vectors of two lanes.
use Rattle.std.specs.Prelude.{ℕ, zero, suc, ◌≡◌, List, map, slice_index}
use Rattle.std.specs.List.{range_with_len}
use Rattle.ripemd_block.specs.Standard.{◌⊞◌, message_word, Line, left_line, right_line, Lines}

-- both lines
abbrev pub both_lines : List ℕ → List ℕ → Lines
both_lines l r = record { left = l; right = r }

-- the sixteen message words of a block
unfoldable pub message_words : List ℕ → List ℕ
message_words block = map (message_word block) (range_with_len 0 16)

-- the message words of a block, each with k added
unfoldable pub words_with : ℕ → List ℕ → List ℕ
words_with k block = map (λ w. w ⊞ k) (message_words block)

-- the message words with the constant of each round of a line added
unfoldable pub words_of_rounds : Line → ℕ → List ℕ → List (List ℕ)
words_of_rounds line rounds block = map (λ r. words_with (line.constant r) block) (range_with_len 0 rounds)

-- ls and rs are the words of both lines, of a variant with this many rounds, for a block
pub record HasWords (rounds : ℕ) (ls rs : List (List ℕ)) (block : List ℕ) : Type 0 where
  pub left : ls ≡ words_of_rounds left_line rounds block
  pub right : rs ≡ words_of_rounds (right_line rounds) rounds block

-- ---- two lanes: lane 0 runs the left line and lane 1 the right one

-- the line of lane j, of a variant with this many rounds
abbrev pub line_of_lane : ℕ → ℕ → Line
line_of_lane rounds zero = left_line
line_of_lane rounds (suc j) = right_line rounds

-- the words of registers in lane j
abbrev pub lane : List (List ℕ) → ℕ → List ℕ
lane registers j = map (λ v. slice_index v j) registers
