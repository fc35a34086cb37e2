-- Words, their bytes and blocks, as in MD4 (RFC 1320).
-- A word is a number below 2 ^ 32, a byte one below 256. Messages, blocks and digests are lists of
-- bytes, and states are lists of words.
use Rattle.std.specs.Prelude.{ℕ, ◌+◌, ◌*◌, ◌%◌, ◌^◌, List, take, drop}
use Rattle.std.specs.Int.{w32, w64, rotate_left, from_le_bytes, to_le_bytes}
use Rattle.std.specs.List.{flat_map}

-- the sum of two words, modulo 2 ^ 32 (RFC 1320, section 2)
infixl 65 ◌⊞◌
abbrev pub ◌⊞◌ : ℕ → ℕ → ℕ
x ⊞ y = (x + y) % 2 ^ 32

-- the word x, rotated to the left by s bits (RFC 1320, section 2)
abbrev pub rol : ℕ → ℕ → ℕ
rol x s = rotate_left w32 x s

-- how many bytes a block has (RFC 1320, section 3.4: sixteen words)
abbrev pub block_size : ℕ
block_size = 64

-- message word j of a block: bytes 4 j to 4 j + 3, least first (RFC 1320, section 2)
abbrev pub message_word : List ℕ → ℕ → ℕ
message_word block j = from_le_bytes w32 (take 4 (drop (4 * j) block))

-- the bytes of words in order, four for each, least first (RFC 1320, section 3.5)
abbrev pub word_bytes : List ℕ → List ℕ
word_bytes words = flat_map (to_le_bytes w32) words

-- the eight bytes of a number below 2 ^ 64, least first (RFC 1320, section 3.2)
abbrev pub eight_bytes : ℕ → List ℕ
eight_bytes n = to_le_bytes w64 n
