-- Worked examples, as facts of these definitions: tags, a saved HMAC state, and collisions of a small block
-- function.
use Rattle.std.specs.Prelude.{◌≡◌, ℕ, ◌+◌, ◌-◌, ◌*◌, ◌%◌, codes, List, [], ◌∷◌, ◌++◌, length, replicate, slice_index_or}
use Rattle.ripemd.specs.Standard.{word_bytes, ripemd128, ripemd160, compress, padded_message, blocks, hash, ripemd}
use Rattle.ripemd.specs.Published.{hexadecimal}
use Rattle.ripemd.specs.States.{AreWords}
use Rattle.ripemd.specs.Worked.{block_of}
use Rattle.ripemd.specs.declared.witness.Collision.{Collision}
use Rattle.ripemd_mac.specs.declared.reduction.MacCollision.{MacCollision}
use Rattle.ripemd_mac.specs.declared.reduction.MacCollision.TheVariants.{Inner, Outer}
use Rattle.ripemd_mac.specs.Hmac.{hmac, inner_message, outer_message, fed_text, tag_of, keyed_state}
use Rattle.ripemd_mac.specs.MacCollisions.{InnerAgree, IsMacCollision}
use Rattle.ripemd_mac.specs.Saved.{IsSavedFor}
use Rattle.ripemd_mac.specs.Pbkdf2.{F, pbkdf2}

-- ---- tags

abbrev pub long_key_text : List ℕ
long_key_text = codes "Test Using Larger Than Block-Size Key - Hash Key First"

-- the tags of RFC 2286 under keys of 16, 20 and 80 bytes, and one by OpenSSL under a key of 64 bytes
pub record WorkedTags : Type 0 where
  pub of128 : hexadecimal (hmac (ripemd ripemd128) (replicate 16 0x0b) (codes "Hi There"))
      ≡ codes "fbf61f9492aa4bbf81c172e84e0734db"
  pub of160 : hexadecimal (hmac (ripemd ripemd160) (replicate 20 0x0b) (codes "Hi There"))
      ≡ codes "24cb4bd67d20fc1a5d2ed7732dcc39377f0a5668"
  pub long_key_of128 : hexadecimal (hmac (ripemd ripemd128) (replicate 80 0xaa) long_key_text)
      ≡ codes "dc732928de98104a1f59d373c150acbb"
  pub long_key_of160 : hexadecimal (hmac (ripemd ripemd160) (replicate 80 0xaa) long_key_text)
      ≡ codes "6466ca07ac5eac29e1bd523e5ada7605b791fd8b"
  pub whole_block : hexadecimal (hmac (ripemd ripemd160) (replicate 64 0xaa) (codes "Hi There"))
      ≡ codes "551147982017d1c4764ecba3a5f5ea96153b0c5d"

-- ---- a saved HMAC state

-- the bytes of a RIPEMD-160 hasher after one block and a tail, where the bytes of its words are these
abbrev pub saved_after_a_block : List ℕ → List ℕ → List ℕ
saved_after_a_block words tail = words ++ 1 ∷ replicate 7 0 ++ length tail ∷ tail ++ replicate (63 - length tail) 0

-- the bytes for "Hi There" under 20 bytes 0x0b: the words are OpenSSL's after each masked key
abbrev pub saved_inner : List ℕ
saved_inner = saved_after_a_block (0xb3 ∷ 0x1c ∷ 0x08 ∷ 0xe6 ∷ 0xad ∷ 0xb5 ∷ 0xb8 ∷ 0xf2 ∷ 0xc4 ∷ 0x21
    ∷ 0x54 ∷ 0x70 ∷ 0xfd ∷ 0xaf ∷ 0x49 ∷ 0xb0 ∷ 0x4e ∷ 0xe8 ∷ 0xf0 ∷ 0x16 ∷ []) (codes "Hi There")

abbrev pub saved_outer : List ℕ
saved_outer = saved_after_a_block (0x7c ∷ 0x36 ∷ 0xc7 ∷ 0xb9 ∷ 0x70 ∷ 0x37 ∷ 0xe8 ∷ 0xe8 ∷ 0x62 ∷ 0x56
    ∷ 0x6e ∷ 0xdd ∷ 0xbc ∷ 0x10 ∷ 0xdf ∷ 0xd8 ∷ 0x05 ∷ 0x04 ∷ 0xf9 ∷ 0x99 ∷ []) []

-- these bytes are saved for this key and this text
abbrev pub SavedForHiThere : List ℕ → Type 0
SavedForHiThere =
    IsSavedFor ripemd160.start (compress ripemd160) word_bytes (AreWords 5) (replicate 20 0x0b) (codes "Hi There")

-- the bytes are such, and exchanged they are not; and the tag of RFC 2286 that the state gives
pub record WorkedSaved : Type 0 where
  pub saved : SavedForHiThere (saved_inner ++ saved_outer)
  pub exchanged : ¬ SavedForHiThere (saved_outer ++ saved_inner)
  pub tag : hexadecimal (tag_of (compress ripemd160) word_bytes
      (fed_text (compress ripemd160) (keyed_state ripemd160.start (compress ripemd160) word_bytes (replicate 20 0x0b)) (codes "Hi There")))
      ≡ codes "24cb4bd67d20fc1a5d2ed7732dcc39377f0a5668"

-- ---- collisions

-- a block function over numbers: 0 if the block's first byte is odd, and else its sum with the state, modulo 4
abbrev pub even_sum : ℕ → List ℕ → ℕ
even_sum state block = (state + slice_index_or block 0 0) * (1 - slice_index_or block 0 0 % 2) % 4

-- its hash, which is odd
abbrev pub small_hash : List ℕ → List ℕ
small_hash = hash 0 even_sum (λ state. (2 * state + 1) ∷ [])

-- the answer for two texts of one block, under the empty key
abbrev pub Meets : ℕ → ℕ → MacCollision ℕ → Type 0
Meets a b = IsMacCollision small_hash 0 even_sum [] (block_of a) (block_of b)

-- a collision at the second blocks of two messages, after the same state
abbrev pub second_blocks : ℕ → List ℕ → List ℕ → Collision ℕ
second_blocks state a b = record {
  left = record { place = 1; state = state; block = slice_index_or (blocks (padded_message a)) 1 [] };
  right = record { place = 1; state = state; block = slice_index_or (blocks (padded_message b)) 1 [] };
}

-- collisions of the texts with the bytes 1 and 3, whose inner hashes agree, and 0 and 2, whose inner hashes do not;
-- and two whose inner hashes agree at another state
pub record WorkedMacCollisions : Type 0 where
  pub agree_again : InnerAgree small_hash [] (block_of 0) (block_of 4)
  pub inner : Meets 1 3
      (Inner (second_blocks 2 (inner_message small_hash [] (block_of 1)) (inner_message small_hash [] (block_of 3))))
  pub outer : Meets 0 2
      (Outer (second_blocks 0 (outer_message small_hash [] (block_of 0)) (outer_message small_hash [] (block_of 2))))
  pub no_outer : (c : Collision ℕ) → ¬ Meets 1 3 (Outer c)
  pub no_inner : (c : Collision ℕ) → ¬ Meets 0 2 (Inner c)

-- ---- keys from passwords

abbrev pub derived : (P S : List ℕ) → (c dkLen : ℕ) → List ℕ
derived P S c dkLen = hexadecimal (pbkdf2 (hmac (ripemd ripemd160)) 20 P S c dkLen)

-- keys that OpenSSL gives
pub record WorkedKeys : Type 0 where
  pub one : derived (codes "password") (codes "salt") 1 20 ≡ codes "b725258b125e0bacb0e2307e34feb16a4d0d6aed"
  pub two : derived (codes "password") (codes "salt") 2 45 ≡ codes "768dcc27b7bfdef794a1ff9d935090fcf598555e66913180b9ce363c615e9ed953b95fd07169be535e38afbea2"
  pub no_salt : derived (codes "password") [] 3 20 ≡ codes "22f218113a0d856b0ec1a8a5308b1f94e00e4386"
  pub long_password : derived (replicate 65 0x61) (codes "salt") 1 25 ≡ codes "85890e1e1d2403309e94d5d319895e7fd1b8565eb520b0e34a"
  -- by a function that always gives the byte 5, each byte of the key is a block, 5 xor 5
  pub blocks : pbkdf2 (λ P m. 5 ∷ []) 1 [] [] 2 3 ≡ 0 ∷ 0 ∷ 0 ∷ []
  -- the block whose number has four different bytes, 01 02 03 04
  pub large_number : hexadecimal (F (hmac (ripemd ripemd160)) (codes "password") (codes "salt") 1 0x01020304)
      ≡ codes "845033f482fa5170b087e883a8a05e8d85ce77c8"
