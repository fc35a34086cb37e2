-- Messages: their padding, their blocks, the walk of a block function through these, and the hash
-- (1996, pseudo-code; the padding is that of MD4, RFC 1320, sections 3.1 and 3.2).
use Rattle.std.specs.Prelude.{ℕ, ◌+◌, ◌-◌, ◌*◌, ◌/◌, ◌%◌, ◌^◌, List, ◌∷◌, ◌++◌, length, drop, replicate}
use Rattle.std.specs.List.{fold}
use Rattle.std.specs.Simd.{first_chunks}
use Rattle.ripemd_block.specs.Standard.Words.{block_size, word_bytes, eight_bytes}
use Rattle.ripemd_block.specs.Standard.Compression.{Parameters, compress}

-- the place of the length in the last block, whose last 8 bytes it is (RFC 1320, section 3.2)
abbrev pub length_place : ℕ
length_place = 56

-- how many zero bytes follow n bytes and the byte 0x80: the fewest after which the length has its
-- place (RFC 1320, section 3.1)
abbrev pub zero_count : ℕ → ℕ
zero_count n = (length_place - 1 + block_size - n % block_size) % block_size

-- some last bytes of a message and then the padding: the byte 0x80, zero bytes, and the length of
-- the whole message in bits
unfoldable pub with_padding : List ℕ → ℕ → List ℕ
with_padding tail bit_length = tail ++ 0x80 ∷ replicate (zero_count (length tail)) 0 ++ eight_bytes bit_length

-- the message with its padding. Its length in bits is taken modulo 2 ^ 64 (RFC 1320, section 3.2)
abbrev pub padded_message : List ℕ → List ℕ
padded_message message = with_padding message (8 * length message % 2 ^ 64)

-- the whole blocks of some bytes, in order
unfoldable pub blocks : List ℕ → List (List ℕ)
blocks bytes = first_chunks block_size (length bytes / block_size) bytes

-- the bytes after the last whole block
unfoldable pub partial_block : List ℕ → List ℕ
partial_block bytes = drop (length bytes / block_size * block_size) bytes

-- the state to which a block function's step leads through blocks in order
abbrev pub walk : {S : Type 0} → (S → List ℕ → S) → S → List (List ℕ) → S
walk step state bs = fold step state bs

-- the hash of a message by a block function, which is given by its start, its step and its output:
-- the output of the state after the walk from the start through the blocks of the padded message
unfoldable pub hash : {S D : Type 0} → S → (S → List ℕ → S) → (S → D) → List ℕ → D
hash start step output message = output (walk step start (blocks (padded_message message)))

-- the digest of a message by a variant: the hash by its start words, its compression function, and
-- the bytes of the words
abbrev pub ripemd : Parameters → List ℕ → List ℕ
ripemd v message = hash v.start (compress v) word_bytes message
