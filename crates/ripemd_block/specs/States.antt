-- A hash state (this repository's own): what a core or a hasher stands for while a message
-- comes in, how it takes bytes in, how it is finished, and the bytes that it is saved as.
use Rattle.std.specs.Prelude.{◌≡◌, ℕ, ◌+◌, ◌-◌, ◌*◌, ◌%◌, ◌^◌, ◌<◌, List, [], ◌∷◌, ◌++◌, length, replicate}
use Rattle.std.specs.List.{All}
use Rattle.ripemd_block.specs.Standard.{block_size, word_bytes, eight_bytes, Parameters, with_padding, blocks, partial_block, walk}

-- ---- the state

-- a hash state: the words (chaining value) after the whole blocks so far, how many those were modulo 2 ^ 64, and
-- the tail of bytes after them
pub record HashState : Type 0 where
  pub words : List ℕ
  pub count : ℕ
  pub tail : List ℕ

-- the state before the first byte, for a walk from some start words
abbrev pub initial_state : List ℕ → HashState
initial_state start = record { words = start; count = 0; tail = [] }

-- the state of a variant before the first byte
abbrev pub new_state : Parameters → HashState
new_state v = initial_state v.start

-- a core's state with a tail after its blocks
abbrev pub with_tail : HashState → List ℕ → HashState
with_tail h tail = record h { tail = tail }

-- ---- taking bytes in, and the end

-- the state after some blocks, which leave its tail as it is: the words walk through them, and the
-- count grows by their number
abbrev pub after_blocks : (List ℕ → List ℕ → List ℕ) → HashState → List (List ℕ) → HashState
after_blocks step h bs = record h { words = walk step h.words bs; count = (h.count + length bs) % 2 ^ 64 }

-- the state after some bytes: a walk through the whole blocks of the tail and the bytes, and what
-- is left of them is the new tail
unfoldable pub fed : (List ℕ → List ℕ → List ℕ) → HashState → List ℕ → HashState
fed step h bytes = with_tail (after_blocks step h (blocks (h.tail ++ bytes))) (partial_block (h.tail ++ bytes))

-- the digest of a state: the output of its words after the walk through its tail with the padding.
-- The length counts 64 bytes for each block, and those of the tail
unfoldable pub finish : {D : Type 0} → (List ℕ → List ℕ → List ℕ) → (List ℕ → D) → HashState → D
finish step output h =
    let bit_length = 8 * (length h.tail + block_size * h.count) % 2 ^ 64 in
    output (walk step h.words (blocks (with_padding h.tail bit_length)))

-- ---- the states that can occur

-- a list of n words
pub record AreWords (n : ℕ) (xs : List ℕ) : Type 0 where
  pub count : length xs ≡ n
  pub fit : All (λ w. w < 2 ^ 32) xs

-- the tails that a buffer can hold: fewer bytes than a block
pub record IsTail (tail : List ℕ) : Type 0 where
  pub short : length tail < block_size
  pub bytes : All (λ b. b < 256) tail

-- the valid states of a core or a hasher: words that are a state of its block function, a count below
-- 2 ^ 64, and a tail
pub record IsHashState (are_words : List ℕ → Type 0) (h : HashState) : Type 0 where
  pub words : are_words h.words
  pub count : h.count < 2 ^ 64
  pub tail : IsTail h.tail

-- the valid states of a hasher of a variant, by its number of words
abbrev pub IsState : Parameters → HashState → Type 0
IsState v = IsHashState (AreWords (length v.start))

-- the valid states of a core: it has no tail
pub record IsWithoutTail (are_words : List ℕ → Type 0) (h : HashState) : Type 0 where
  pub state : IsHashState are_words h
  pub no_tail : h.tail ≡ []

-- the valid states of a core of a variant
abbrev pub IsCoreState : Parameters → HashState → Type 0
IsCoreState v = IsWithoutTail (AreWords (length v.start))

-- ---- saved bytes

-- the saved bytes of a core: the output of its words, from which they can be recovered, and its count
unfoldable pub output_and_count : (List ℕ → List ℕ) → HashState → List ℕ
output_and_count output h = output h.words ++ eight_bytes h.count

-- the saved bytes of a tail: its length as one byte, the tail, and zero bytes until 63 bytes stand after the length
abbrev pub tail_bytes : List ℕ → List ℕ
tail_bytes tail = length tail ∷ tail ++ replicate (63 - length tail) 0

-- the saved bytes of a hasher: those of its core, and those of its tail
unfoldable pub core_and_tail : (List ℕ → List ℕ) → HashState → List ℕ
core_and_tail output h = output_and_count output h ++ tail_bytes h.tail

-- the saved bytes of the four variants, whose output is the bytes of the words
abbrev pub core_bytes : HashState → List ℕ
core_bytes = output_and_count word_bytes

abbrev pub hasher_bytes : HashState → List ℕ
hasher_bytes = core_and_tail word_bytes
