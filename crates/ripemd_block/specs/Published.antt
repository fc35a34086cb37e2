-- What the authors published of the four variants, as facts that these definitions compute to:
-- digests, the tables of the two lines, and the constants. Then hash states: finishing where the
-- length or the count wraps, saved bytes, and which states can occur.
use Rattle.std.specs.Prelude.{◌≡◌, ℕ, ◌+◌, ◌-◌, ◌*◌, ◌/◌, ◌%◌, ◌^◌, ◌<◌, ◌≤◌, codes, List, [], ◌∷◌, ◌++◌, replicate, drop, map, slice_index}
use Rattle.std.specs.List.{flat_map, range_with_len}
use Rattle.ripemd_block.specs.Standard.{Line, left_line, right_line, prime, square_root_constant, cube_root_constant, word_bytes, ripemd128, ripemd160, ripemd256, ripemd320, compress, ripemd}
use Rattle.ripemd_block.specs.States.{HashState, IsState, IsCoreState, new_state, with_tail, fed, finish, core_bytes, hasher_bytes}

-- ---- digests

-- bytes as lower case hexadecimal digits, two for each
abbrev pub hexadecimal : List ℕ → List ℕ
hexadecimal bytes = flat_map (λ b. digit (b / 16) ∷ digit (b % 16) ∷ []) bytes
  where
    digit : ℕ → ℕ
    digit n = slice_index (codes "0123456789abcdef") n

-- a message has these digests by RIPEMD-128, RIPEMD-160, RIPEMD-256 and RIPEMD-320
pub record HasDigests (message by128 by160 by256 by320 : List ℕ) : Type 0 where
  pub of128 : hexadecimal (ripemd ripemd128 message) ≡ by128
  pub of160 : hexadecimal (ripemd ripemd160 message) ≡ by160
  pub of256 : hexadecimal (ripemd ripemd256 message) ≡ by256
  pub of320 : hexadecimal (ripemd ripemd320 message) ≡ by320

abbrev pub DigestsOfEmpty : Type 0
DigestsOfEmpty = HasDigests []
    (codes "cdf26213a150dc3ecb610f18f6b38b46")
    (codes "9c1185a5c5e9fc54612808977ee8f548b2258d31")
    (codes "02ba4c4e5f8ecd1877fc52d64d30e37a2d9774fb1e5d026380ae0168e3c5522d")
    (codes "22d65d5661536cdc75c1fdf5c6de7b41b9f27325ebc61e8557177d705a0ec880151c3a32a00899b8")

abbrev pub DigestsOfAbc : Type 0
DigestsOfAbc = HasDigests (codes "abc")
    (codes "c14a12199c66e4ba84636b0f69144c77")
    (codes "8eb208f7e05d987a9b044a8e98c6b087f15a0bfc")
    (codes "afbd6e228b9d8cbbcef5ca2d03e6dba10ac0bc7dcbe4680e1e42d2e975459b65")
    (codes "de4c01b3054f8930a79d09ae738e92301e5a17085beffdc1b8d116713e74f82fa942d64cdbc4682d")

-- 56 bytes, so that the padding needs a block of its own
abbrev pub DigestsOfTwoBlocks : Type 0
DigestsOfTwoBlocks = HasDigests (codes "abcdbcdecdefdefgefghfghighijhijkijkljklmklmnlmnomnopnopq")
    (codes "a1aa0689d0fafa2ddc22e88b49133a06")
    (codes "12a053384a9c0c88e405a06c27dcf49ada62eb2b")
    (codes "3843045583aac6c8c8d9128573e7a9809afb2a0f34ccc36ea9e72f16f6368e3f")
    (codes "d034a7950cf722021ba4b84df769a5de2060e259df4c9bb4a4268c0e935bbc7470a969c9d072a1ac")

-- 80 bytes, of which none in the first block is zero, so that every byte of a block counts
abbrev pub DigestsOfDigits : Type 0
DigestsOfDigits = HasDigests
    (codes "12345678901234567890123456789012345678901234567890123456789012345678901234567890")
    (codes "3f45ef194732c2dbb2c4a2c769795fa3")
    (codes "9b752e45573d4b39f4dbd3323cab82bf63326bfb")
    (codes "06fdcc7a409548aaf91368c06a6275b553e3f099bf0ea4edfd6778df89a890dd")
    (codes "557888af5f6d8ed62ab66945c6d2a0a47ecd5341e915eb8fea1d0524955f825dc717e4a008ab2d42")

-- ---- the order of the message words

-- the numbers of the message words that a line takes, round by round
abbrev pub word_order : Line → List (List ℕ)
word_order line = map (λ r. map (line.word_number r) (range_with_len 0 16)) (range_with_len 0 5)

abbrev pub OrderOfLeftLine : Type 0
OrderOfLeftLine = word_order left_line ≡
    (0 ∷ 1 ∷ 2 ∷ 3 ∷ 4 ∷ 5 ∷ 6 ∷ 7 ∷ 8 ∷ 9 ∷ 10 ∷ 11 ∷ 12 ∷ 13 ∷ 14 ∷ 15 ∷ [])
    ∷ (7 ∷ 4 ∷ 13 ∷ 1 ∷ 10 ∷ 6 ∷ 15 ∷ 3 ∷ 12 ∷ 0 ∷ 9 ∷ 5 ∷ 2 ∷ 14 ∷ 11 ∷ 8 ∷ [])
    ∷ (3 ∷ 10 ∷ 14 ∷ 4 ∷ 9 ∷ 15 ∷ 8 ∷ 1 ∷ 2 ∷ 7 ∷ 0 ∷ 6 ∷ 13 ∷ 11 ∷ 5 ∷ 12 ∷ [])
    ∷ (1 ∷ 9 ∷ 11 ∷ 10 ∷ 0 ∷ 8 ∷ 12 ∷ 4 ∷ 13 ∷ 3 ∷ 7 ∷ 15 ∷ 14 ∷ 5 ∷ 6 ∷ 2 ∷ [])
    ∷ (4 ∷ 0 ∷ 5 ∷ 9 ∷ 7 ∷ 12 ∷ 2 ∷ 10 ∷ 14 ∷ 1 ∷ 3 ∷ 8 ∷ 11 ∷ 6 ∷ 15 ∷ 13 ∷ [])
    ∷ []

abbrev pub OrderOfRightLine : Type 0
OrderOfRightLine = word_order (right_line 5) ≡
    (5 ∷ 14 ∷ 7 ∷ 0 ∷ 9 ∷ 2 ∷ 11 ∷ 4 ∷ 13 ∷ 6 ∷ 15 ∷ 8 ∷ 1 ∷ 10 ∷ 3 ∷ 12 ∷ [])
    ∷ (6 ∷ 11 ∷ 3 ∷ 7 ∷ 0 ∷ 13 ∷ 5 ∷ 10 ∷ 14 ∷ 15 ∷ 8 ∷ 12 ∷ 4 ∷ 9 ∷ 1 ∷ 2 ∷ [])
    ∷ (15 ∷ 5 ∷ 1 ∷ 3 ∷ 7 ∷ 14 ∷ 6 ∷ 9 ∷ 11 ∷ 8 ∷ 12 ∷ 2 ∷ 10 ∷ 0 ∷ 4 ∷ 13 ∷ [])
    ∷ (8 ∷ 6 ∷ 4 ∷ 1 ∷ 3 ∷ 11 ∷ 15 ∷ 0 ∷ 5 ∷ 12 ∷ 2 ∷ 13 ∷ 9 ∷ 7 ∷ 10 ∷ 14 ∷ [])
    ∷ (12 ∷ 15 ∷ 10 ∷ 4 ∷ 1 ∷ 5 ∷ 8 ∷ 7 ∷ 6 ∷ 2 ∷ 13 ∷ 14 ∷ 0 ∷ 3 ∷ 9 ∷ 11 ∷ [])
    ∷ []

-- ---- the constants

-- the constants of a line's first n rounds
abbrev pub constants : Line → ℕ → List ℕ
constants line n = map line.constant (range_with_len 0 n)

pub record ConstantsOfLines : Type 0 where
  pub left : constants left_line 5 ≡ 0 ∷ 0x5a827999 ∷ 0x6ed9eba1 ∷ 0x8f1bbcdc ∷ 0xa953fd4e ∷ []
  pub right_of_four : constants (right_line 4) 4 ≡ 0x50a28be6 ∷ 0x5c4dd124 ∷ 0x6d703ef3 ∷ 0 ∷ []
  pub right_of_five : constants (right_line 5) 5 ≡ 0x50a28be6 ∷ 0x5c4dd124 ∷ 0x6d703ef3 ∷ 0x7a6d76e9 ∷ 0 ∷ []

-- k is the greatest whole number whose e-th power is at most n
pub record IsWholeRoot (e n k : ℕ) : Type 0 where
  pub low : k ^ e ≤ n
  pub high : n < (k + 1) ^ e

-- the constants of both kinds at prime i are whole roots
pub record AreWholeRoots (i : ℕ) : Type 0 where
  pub square : IsWholeRoot 2 (prime i * 2 ^ 60) (square_root_constant i)
  pub cube : IsWholeRoot 3 (prime i * 2 ^ 90) (cube_root_constant i)

-- ---- saved bytes

-- the saved bytes of new cores: the start words, and the count 0
pub record SavedCores : Type 0 where
  pub of128 : hexadecimal (core_bytes (new_state ripemd128)) ≡ codes "0123456789abcdeffedcba98765432100000000000000000"
  pub of160 : hexadecimal (core_bytes (new_state ripemd160))
      ≡ codes "0123456789abcdeffedcba9876543210f0e1d2c30000000000000000"
  pub of256 : hexadecimal (core_bytes (new_state ripemd256))
      ≡ codes "0123456789abcdeffedcba98765432101032547698badcfeefcdab89674523010000000000000000"
  pub of320 : hexadecimal (core_bytes (new_state ripemd320))
      ≡ codes "0123456789abcdeffedcba9876543210f0e1d2c31032547698badcfeefcdab89674523010f1e2d3c0000000000000000"

-- the saved bytes of a RIPEMD-160 hasher that was fed "abc": its core's, the length 3, the three
-- bytes, and sixty zero bytes
abbrev pub SavedHasher : Type 0
SavedHasher =
    hasher_bytes (fed (compress ripemd160) (new_state ripemd160) (codes "abc"))
    ≡ core_bytes (new_state ripemd160) ++ 3 ∷ codes "abc" ++ replicate 60 0

-- the saved bytes, after the words, of one that was fed 65 times the byte 0x61: the count 1 in eight bytes, the
-- length 1, the one byte, and 62 zero bytes
abbrev pub SavedBlockAndTail : Type 0
SavedBlockAndTail =
    drop 20 (hasher_bytes (fed (compress ripemd160) (new_state ripemd160) (replicate 65 0x61)))
    ≡ 1 ∷ replicate 7 0 ++ 1 ∷ 0x61 ∷ replicate 62 0

-- ---- the end of long messages

-- a RIPEMD-160 hasher after 2 ^ 64 - 1 blocks, whose words are the start words again
abbrev pub after_most_blocks : HashState
after_most_blocks = record (new_state ripemd160) { count = 2 ^ 64 - 1 }

-- the digests that it gives after three bytes more, and after 67, with which the count wraps. OpenSSL
-- gives them too, when its count of bits is set to 2 ^ 64 - 512
pub record EndsOfLongMessages : Type 0 where
  pub same_count : hexadecimal (finish (compress ripemd160) word_bytes (with_tail after_most_blocks (codes "abc")))
      ≡ codes "5b3fd7f108829cfbfa70100129a6e5780873ae9a"
  pub wrapped : (fed (compress ripemd160) after_most_blocks (replicate 67 0x61)).count ≡ 0
  pub wrapped_count :
      hexadecimal
      (finish (compress ripemd160) word_bytes (fed (compress ripemd160) after_most_blocks (replicate 67 0x61)))
      ≡ codes "cc15afa7a251ed184f13b62b5163ba9cb1c2c4af"

-- ---- which states can occur

-- the greatest state of RIPEMD-160, and six that are one past it or have another number of words
pub record StatesThatOccur : Type 0 where
  pub greatest : IsState ripemd160
      (record { words = replicate 5 (2 ^ 32 - 1); count = 2 ^ 64 - 1; tail = replicate 63 255 })
  pub no_missing_word : ¬ IsState ripemd160 (record (new_state ripemd160) { words = replicate 4 0 })
  pub no_further_word : ¬ IsState ripemd160 (record (new_state ripemd160) { words = replicate 6 0 })
  pub no_greater_word : ¬ IsState ripemd160 (record (new_state ripemd160) { words = replicate 5 (2 ^ 32) })
  pub no_greater_count : ¬ IsState ripemd160 (record (new_state ripemd160) { count = 2 ^ 64 })
  pub no_longer_tail : ¬ IsState ripemd160 (with_tail (new_state ripemd160) (replicate 64 0))
  pub no_greater_byte : ¬ IsState ripemd160 (with_tail (new_state ripemd160) (256 ∷ []))
  pub core : IsCoreState ripemd160 (new_state ripemd160)
  pub no_core_with_tail : ¬ IsCoreState ripemd160 (with_tail (new_state ripemd160) (0 ∷ []))
