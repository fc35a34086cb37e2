-- A line, step by step and round by round, of any variant.
use Rattle.ripemd_block.proofs.Library.{◌≡◌, ℕ, zero, suc, ◌<◌, ◌+◌, ◌-◌, ◌^◌, add-one, ap, ◌∙◌, refl, arith, List, [], ◌∷◌, Option, length, get_or, slice_get, take_all}
use Rattle.std.specs.List.{All}
use Rattle.ripemd_block.specs.Standard.{◌⊞◌, message_word, Line, left_line, right_line, rotation, Parameters, Lines, step, registers_after, round, word_sums, exchange, lines_after, lines_from, compress}
use Rattle.ripemd_block.specs.Code.{both_lines, message_words, words_with, words_of_rounds}
use Rattle.ripemd_block.proofs.Tables.{value_at, entry_at}

-- the message word that a step takes
pub word_of_step : {words : List ℕ} (block : List ℕ) (i n d : ℕ) → words ≡ message_words block → i < 16 → i ≡ n
    → get_or words i d ≡ message_word block n
unfolding message_words
word_of_step block i n d all within same = rw (all, ← same) (value_at (message_word block) 16 i d within)

-- the word at a place of a round, with the constant in it
pub word_with_constant : {rows : List (List ℕ)} (line : Line) (rounds : ℕ) (block : List ℕ) (r j d : ℕ)
    → rows ≡ words_of_rounds line rounds block → r < rounds → j < 16
    → get_or (get_or rows r []) j d ≡ message_word block j ⊞ line.constant r
unfolding words_of_rounds words_with message_words
word_with_constant line rounds block r j d all round word =
    rw all (entry_at (λ r j. message_word block j ⊞ line.constant r) rounds 16 r j d round word)

same_sum : (u x k : ℕ) → u ⊞ (x ⊞ k) ⊞ 0 ≡ u ⊞ x ⊞ k
same_sum u x k = omega arith

-- a step may take the sum of its message word and its constant
pub joined_step : (f : ℕ → ℕ → ℕ → ℕ) (x k s : ℕ) (registers : List ℕ)
    → step f (x ⊞ k) 0 s registers ≡ step f x k s registers
joined_step f x k s [] = refl
joined_step f x k s (a ∷ []) = refl
joined_step f x k s (a ∷ b ∷ []) = refl
joined_step f x k s (a ∷ b ∷ c ∷ []) = refl
joined_step f x k s (a ∷ b ∷ c ∷ d ∷ []) = rw (same_sum (a ⊞ f b c d) x k) refl
joined_step f x k s (a ∷ b ∷ c ∷ d ∷ e ∷ []) = rw (same_sum (a ⊞ f b c d) x k) refl
joined_step f x k s (a ∷ b ∷ c ∷ d ∷ e ∷ g ∷ more) = refl

-- one more step of a line, where j is the number of its message word x, k the constant and s the rotation
pub one_more_step : (line : Line) (block : List ℕ) (r n : ℕ) (start before after : List ℕ) (j x k s : ℕ)
    → j ≡ line.word_number r n
    → x ≡ message_word block j
    → k ≡ line.constant r
    → s ≡ rotation r j
    → before ≡ registers_after line block r n start
    → after ≡ step (line.function r) x k s before
    → after ≡ registers_after line block r (n + 1) start
unfolding registers_after
one_more_step line block r n start before after j x k s number word constant amount so_far made =
    rw (add-one, ← so_far, ← number, ← word, ← constant, ← amount) made

-- one more step of a line, where the constant is added to the message word
pub one_more_joined_step : (line : Line) (block : List ℕ) (r n : ℕ) (start before after : List ℕ) (j x s : ℕ)
    → j ≡ line.word_number r n
    → x ≡ message_word block j ⊞ line.constant r
    → s ≡ rotation r j
    → before ≡ registers_after line block r n start
    → after ≡ step (line.function r) x 0 s before
    → after ≡ registers_after line block r (n + 1) start
one_more_joined_step line block r n start before after j x s number word amount so_far made =
    one_more_step line block r n start before after j (message_word block j) (line.constant r) s number refl refl
    amount so_far
    (made ∙ ap (λ (w : ℕ). step (line.function r) w 0 s before) word
    ∙ joined_step (line.function r) (message_word block j) (line.constant r) s before)

-- the lines are those after the first n rounds on a block
pub record AfterRounds (v : Parameters) (start : Lines) (block : List ℕ) (n : ℕ) (lines : Lines) : Type 0 where
  pub same : lines ≡ lines_after v block n start

-- before the first round the lines are where the state has them start
pub no_rounds : {lines : Lines} (v : Parameters) (state block : List ℕ) → lines ≡ lines_from v state
    → AfterRounds v (lines_from v state) block 0 lines
unfolding lines_after
no_rounds v state block start = record { same = start }

-- where both lines start from the whole state
pub lines_of_whole : (v : Parameters) (state : List ℕ) → length state ≡ v.registers
    → both_lines state state ≡ lines_from v state
lines_of_whole v state size =
    let none : length state - v.registers ≡ 0 = omega arith in
    rw (take_all v.registers state (omega arith), none) refl

same_exchange : {a b : Lines} {left right : List ℕ} (f g : List ℕ → List ℕ) (e : Option ℕ)
    → left ≡ f a.left → right ≡ g a.right → a ≡ b
    → exchange e (both_lines left right) ≡ exchange e (both_lines (f b.left) (g b.right))
same_exchange f g e of_left of_right same = cc

-- one more round of both lines on the block whose words the code has, and the exchange after it
pub next_round : {v : Parameters} {start : Lines} {block left right : List ℕ} {n : ℕ} {before after : Lines}
    {HasWords : List ℕ → Type 0} → AfterRounds v start block n before
    → ((b : List ℕ) → HasWords b → left ≡ round left_line b n before.left)
    → ((b : List ℕ) → HasWords b → right ≡ round (right_line v.rounds) b n before.right)
    → after ≡ exchange (slice_get v.exchanges n) (record { left = left; right = right })
    → HasWords block → AfterRounds v start block (suc n) after
unfolding lines_after
next_round {v = v} {block = block} {n = n} so_far of_left of_right made words =
    let left = round left_line block n in
    let right = round (right_line v.rounds) block n in
    let same = same_exchange left right (slice_get v.exchanges n) (of_left block words) (of_right block words) so_far.same in
    record { same = made ∙ same }

-- the state after a block, from the lines after all rounds
pub compress_from : {v : Parameters} {state block : List ℕ} {end : Lines}
    → AfterRounds v (lines_from v state) block v.rounds end
    → v.combination state end.left end.right ≡ compress v state block
unfolding compress
compress_from {v = v} {state = state} all = ap (λ (l : Lines). v.combination state l.left l.right) all.same

-- word by word sums are words
pub word_sums_fit : (xs ys : List ℕ) → All (λ w. w < 2 ^ 32) (word_sums xs ys)
word_sums_fit (x ∷ xs) (y ∷ ys) zero d within = omega arith
word_sums_fit (x ∷ xs) (y ∷ ys) (suc k) d within = word_sums_fit xs ys k d (omega arith)
word_sums_fit (x ∷ xs) [] k d within = absurd (omega arith)
word_sums_fit [] ys k d within = absurd (omega arith)
