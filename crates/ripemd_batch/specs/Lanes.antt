-- Messages side by side: a vector has a word of each.
use Rattle.std.specs.Prelude.{ℕ, ◌<◌, ◌≡◌, ◌+◌, ◌-◌, ◌*◌, ◌/◌, ◌%◌, ◌^◌, List, [], ◌∷◌, ◌++◌, length, map, replicate, take, slice_index, slice_index_or, Option, None, Some}
use Rattle.std.specs.List.{range_with_len}
use Rattle.std.specs.Borrow.{Bor}
use Rattle.std.specs.Simd.{first_chunks}
use Rattle.ripemd_block.specs.Standard.{message_word, with_padding, blocks, walk, Line, left_line, right_line}
use Rattle.ripemd_batch.specs.declared.lines.Side.{Side}
use Rattle.ripemd_batch.specs.declared.lines.Side.TheVariants.{Left, Right}

-- ---- the lanes of vectors

-- the word of message j in vector i
abbrev pub lane_at : List (List ℕ) → ℕ → ℕ → ℕ
lane_at v i j = slice_index (slice_index_or v i []) j

-- lane j of the first n vectors: the words of message j
abbrev pub lane_of : ℕ → ℕ → List (List ℕ) → List ℕ
lane_of n j v = map (λ i. lane_at v i j) (range_with_len 0 n)

-- word i of message j is that of the block
abbrev pub HasWords : List (List ℕ) → ℕ → List ℕ → Type 0
HasWords words j block = (i : ℕ) → i < 16 → lane_at words i j ≡ message_word block i

-- ---- the two lines

-- the line of a variant with this many rounds
abbrev pub line_of : ℕ → Side → Line
line_of rounds Left = left_line
line_of rounds Right = right_line rounds

-- ---- lists of messages

-- what some references point at, in order
abbrev pub targets : List (Bor (List ℕ)) → List (List ℕ)
targets refs = map (λ r. r.now) refs

-- message j, or its blocks
abbrev pub list_at : {A : Type 0} → List (List A) → ℕ → List A
list_at xs j = slice_index_or xs j []

-- ---- messages with bytes before them

-- a message with its padding, whose length counts the bytes before it, too
abbrev pub padded_after : ℕ → List ℕ → List ℕ
padded_after before message = with_padding message (8 * (before + length message) % 2 ^ 64)

-- the padding of n words after one block, as words: the byte 0x80, zeros, and the length in bits
abbrev pub padding_words : ℕ → List ℕ
padding_words n = 0x80 ∷ replicate (13 - n) 0 ++ (512 + 32 * n) ∷ 0 ∷ []

-- the output after the blocks of such a message, from the state that the bytes before it led to
unfoldable pub hash_after : ℕ → List ℕ → (List ℕ → List ℕ → List ℕ) → (List ℕ → List ℕ) → List ℕ → List ℕ
hash_after before first step output message = output (walk step first (blocks (padded_after before message)))

-- ---- what is made of the messages of a list

-- where the messages of a list begin: the state first, to which so many bytes led; and, for tags, the outer state, to
-- which one block led, and from which each output is hashed again
pub record ListStates : Type 0 where
  pub before : ℕ
  pub first : List ℕ
  pub outer : Option (List ℕ)

-- a function, and where there is an outer state, its output hashed from there
abbrev pub hashed_again : (List ℕ → List ℕ → List ℕ) → (List ℕ → List ℕ) → Option (List ℕ)
    → (List ℕ → List ℕ) → List ℕ → List ℕ
hashed_again step output None inner = inner
hashed_again step output (Some outer) inner = λ m. hash_after 64 outer step output (inner m)

-- what a list makes of one message: a digest, or with an outer state a tag
abbrev pub made_by : (List ℕ → List ℕ → List ℕ) → (List ℕ → List ℕ) → ListStates → List ℕ → List ℕ
made_by step output s = hashed_again step output s.outer (hash_after s.before s.first step output)

-- as many places as before, with these elements from `at` on; those before `at` stay
abbrev pub PutFrom : {A : Type 0} → (at : ℕ) → (elements old new : List A) → Type 0
PutFrom at elements old new =
    (length new ≡ length old) × (take (at + length elements) new ≡ take at old ++ elements)

-- the whole chunks of n elements
unfoldable pub chunks : {A : Type 0} → ℕ → List A → List (List A)
chunks n xs = first_chunks n (length xs / n) xs
