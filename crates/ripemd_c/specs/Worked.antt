-- Worked calls: what these definitions say that calls do with some values. The outputs are those that the authors
-- and RFC 2286 published, and for keys, records and lists those that OpenSSL gives.
use Rattle.std.specs.Prelude.{◌≡◌, ◌≤◌, ◌↔◌, ℕ, ◌+◌, ◌-◌, ◌*◌, ◌^◌, codes, List, [], ◌∷◌, ◌++◌, length, replicate, take, drop, Bool, IsTrue, IsFalse}
use Rattle.std.specs.List.{range_with_len}
use Rattle.ripemd.specs.Published.{hexadecimal}
use Rattle.ripemd_mac.specs.Worked.{saved_inner, saved_outer}
use Rattle.ripemd_c.specs.KeptBytes.{cleared, cleared_hmac}
use Rattle.ripemd_c.specs.Variants.{Refuses, WritesDigest, WritesTag, VerifiesTag}
use Rattle.ripemd_c.specs.Pbkdf2.{FillsKey, DerivesKey, FillsKeys, DerivesKeys}
use Rattle.ripemd_c.specs.Records.{WritesDigests, WritesTags, WritesEachDigest, WritesEachTag}
use Rattle.ripemd_c.specs.KeptStates.{InitsState, UpdatesState, FinalizesState, LoadsState, SavesState, InitsHmac, UpdatesHmac, FinalizesHmac, VerifiesHmac, LoadsHmac, SavesHmac}

-- a call that does this fills a place of so many bytes with an output
abbrev pub Gives : (Does : (old new : List ℕ) → Bool → Type 0) → (size : ℕ) → (output : List ℕ) → Type 0
Gives Does size output = (new : List ℕ) (done : Bool) → Does (range_with_len 0 size) new done → IsTrue done × (hexadecimal new ≡ output)

-- it refuses such a place
abbrev pub RefusesRoom : (Does : (old new : List ℕ) → Bool → Type 0) → (size : ℕ) → Type 0
RefusesRoom Does size =
    (new : List ℕ) (done : Bool) → Does (range_with_len 0 size) new done → Refuses (range_with_len 0 size) new done

-- ---- digests and tags

abbrev pub abc : List ℕ
abc = codes "abc"

-- a variant gives this digest of it, whole and as a piece after the start
pub record DigestsAbc (bits size : ℕ) (digest : List ℕ) : Type 0 where
  pub whole : Gives (WritesDigest bits abc) size digest
  pub pieces : (any first next : List ℕ) (begun fed : Bool) → InitsState bits any first begun → UpdatesState first abc next fed
      → IsTrue begun × IsTrue fed × Gives (FinalizesState next) size digest

pub record WorkedDigests : Type 0 where
  pub of128 : DigestsAbc 128 16 (codes "c14a12199c66e4ba84636b0f69144c77")
  pub of160 : DigestsAbc 160 20 (codes "8eb208f7e05d987a9b044a8e98c6b087f15a0bfc")
  pub of256 : DigestsAbc 256 32 (codes "afbd6e228b9d8cbbcef5ca2d03e6dba10ac0bc7dcbe4680e1e42d2e975459b65")
  pub of320 : DigestsAbc 320 40 (codes "de4c01b3054f8930a79d09ae738e92301e5a17085beffdc1b8d116713e74f82fa942d64cdbc4682d")
  pub short : RefusesRoom (WritesDigest 160 abc) 19
  pub no_variant : RefusesRoom (WritesDigest 20 abc) 20

-- of RFC 2286
abbrev pub key : List ℕ
key = replicate 20 0x0b

abbrev pub tag : List ℕ
tag = 0x24 ∷ 0xcb ∷ 0x4b ∷ 0xd6 ∷ 0x7d ∷ 0x20 ∷ 0xfc ∷ 0x1a ∷ 0x5d ∷ 0x2e
    ∷ 0xd7 ∷ 0x73 ∷ 0x2d ∷ 0xcc ∷ 0x39 ∷ 0x37 ∷ 0x7f ∷ 0x0a ∷ 0x56 ∷ 0x68 ∷ []

pub record WorkedTags : Type 0 where
  pub whole : Gives (WritesTag 160 key (codes "Hi There")) 20 (hexadecimal tag)
  pub long : RefusesRoom (WritesTag 160 key (codes "Hi There")) 21
  pub verified : (bytes : List ℕ) (answer : Bool) → VerifiesTag 160 key (codes "Hi There") bytes answer → IsTrue answer ↔ (bytes ≡ tag)
  pub wrong : (answer : Bool) → VerifiesTag 160 key (codes "Hi there") tag answer → IsFalse answer
  pub no_variant : (answer : Bool) → VerifiesTag 0 key (codes "Hi There") tag answer → IsFalse answer

-- ---- keys

-- from "password" and "salt"
abbrev pub Key : (rounds : ℕ) → (old new : List ℕ) → Bool → Type 0
Key = DerivesKey 160 (codes "password") (codes "salt")

-- by a hash function that always gives the byte 5, each byte of a key by two rounds is a block, 5 xor 5
abbrev pub five : List ℕ → List ℕ
five _ = 5 ∷ []

pub record WorkedKeys : Type 0 where
  pub no_rounds : RefusesRoom (Key 0) 20
  pub one_round : Gives (Key 1) 20 (codes "b725258b125e0bacb0e2307e34feb16a4d0d6aed")
  pub two_rounds : Gives (Key 2) 25 (codes "768dcc27b7bfdef794a1ff9d935090fcf598555e66913180b9")
  pub longest : (old new : List ℕ) (done : Bool) → length old ≡ 20 * (2 ^ 32 - 1) → Key 1 old new done → IsTrue done
  pub too_long : (old new : List ℕ) (done : Bool) → length old ≡ 20 * (2 ^ 32 - 1) + 1 → Key 1 old new done → Refuses old new done
  pub no_bytes : Gives (Key 1) 0 []
  pub blocks : Gives (FillsKey five 1 [] [] 2) 3 (codes "000000")

-- ---- kept bytes

-- a core of two bytes, with tails of one byte, of none, and of all bytes that there are; two hash states with cores
-- of one byte and tails of two bytes and of none
pub record WorkedKept : Type 0 where
  pub one : cleared 2 (9 ∷ 8 ∷ 1 ∷ 7 ∷ 6 ∷ 5 ∷ []) ≡ 9 ∷ 8 ∷ 1 ∷ 7 ∷ 0 ∷ 0 ∷ []
  pub none : cleared 2 (9 ∷ 8 ∷ 0 ∷ 7 ∷ 6 ∷ 5 ∷ []) ≡ 9 ∷ 8 ∷ 0 ∷ 0 ∷ 0 ∷ 0 ∷ []
  pub all : cleared 2 (9 ∷ 8 ∷ 3 ∷ 7 ∷ 6 ∷ 5 ∷ []) ≡ 9 ∷ 8 ∷ 3 ∷ 7 ∷ 6 ∷ 5 ∷ []
  pub empty : cleared 2 (9 ∷ []) ≡ 9 ∷ []
  pub both : cleared_hmac 1 ((9 ∷ 2 ∷ replicate 63 7) ++ 8 ∷ 0 ∷ replicate 63 7)
      ≡ (9 ∷ 2 ∷ 7 ∷ 7 ∷ replicate 61 0) ++ 8 ∷ 0 ∷ replicate 63 0

-- ---- states

-- from a place on, these bytes are 7
abbrev pub soiled : (from : ℕ) → List ℕ → List ℕ
soiled from bytes = take from bytes ++ replicate (length bytes - from) 7

-- what callers keep of a RIPEMD-160 state, and of an HMAC state
abbrev pub kept : List ℕ → List ℕ
kept bytes = 20 ∷ bytes ++ replicate 20 0

abbrev pub kept_hmac : (inner outer : List ℕ) → List ℕ
kept_hmac inner outer = 148 ∷ (inner ++ outer) ++ replicate 40 0

-- the saved bytes after 64 times "a" and one "b", with OpenSSL's words: one block, and a tail of one byte; and the same
-- with another count of blocks, which no known message leads to
abbrev pub saved_after : (count : ℕ) → List ℕ
saved_after count =
    (0xf0 ∷ 0x39 ∷ 0x23 ∷ 0xd4 ∷ 0x6f ∷ 0x9f ∷ 0x5b ∷ 0xce ∷ 0x75 ∷ 0xa0
    ∷ 0x74 ∷ 0x28 ∷ 0xf1 ∷ 0xaa ∷ 0x67 ∷ 0xdf ∷ 0x1c ∷ 0xbe ∷ 0xc1 ∷ 0xc6 ∷ [])
    ++ count ∷ replicate 7 0 ++ 1 ∷ 0x62 ∷ replicate 62 0

abbrev pub saved_bytes : List ℕ
saved_bytes = saved_after 1

-- the saved bytes, with other bytes after the tail
abbrev pub soiled_bytes : List ℕ
soiled_bytes = soiled 30 saved_bytes

-- bytes of no state: a tail has fewer than 64 bytes
abbrev pub forged : List ℕ
forged = replicate 92 0xff

-- that state gives the digest of its message, and after "c" the one that OpenSSL gives, whatever is kept after the
-- tail, and so does the one of two blocks. It is saved with zeros there, and loaded of nothing else. Bytes of no
-- state and of one of the other kind are refused
pub record WorkedStates : Type 0 where
  pub finalized : Gives (FinalizesState (kept soiled_bytes)) 20 (codes "d747cddb32a3bc8e8029dd1cacdcca01392299d6")
  pub updated : (next : List ℕ) (fed : Bool) → UpdatesState (kept soiled_bytes) (codes "c") next fed
      → IsTrue fed × Gives (FinalizesState next) 20 (codes "62cb6e1e229809278596f9d17bd382cc9a0ff0a0")
  pub continued : (next : List ℕ) (fed : Bool) → UpdatesState (kept (saved_after 2)) (codes "c") next fed
      → IsTrue fed × Gives (FinalizesState next) 20 (codes "145d857d0afe48442d8f9e3bb31d1382590a890a")
  pub saved : Gives (SavesState (kept soiled_bytes)) 92 (hexadecimal saved_bytes)
  pub loaded : (any next : List ℕ) (done : Bool) → LoadsState 160 saved_bytes any next done
      → IsTrue done × Gives (FinalizesState next) 20 (codes "d747cddb32a3bc8e8029dd1cacdcca01392299d6")
      × (drop 93 next ≡ drop 93 any)
  pub short : RefusesRoom (FinalizesState (kept saved_bytes)) 19
  pub not_finalized : RefusesRoom (FinalizesState (kept forged)) 20
  pub other_kind : RefusesRoom (FinalizesState (148 ∷ saved_bytes ++ replicate 20 0)) 20
  pub other_mark : RefusesRoom (FinalizesState (41 ∷ replicate 112 0)) 40
  pub not_updated : (piece new : List ℕ) (done : Bool) → UpdatesState (kept forged) piece new done → Refuses (kept forged) new done
  pub short_saved : RefusesRoom (SavesState (kept saved_bytes)) 91
  pub not_saved : RefusesRoom (SavesState (kept forged)) 92
  pub not_zeros : RefusesRoom (LoadsState 160 soiled_bytes) 113
  pub other_variant : RefusesRoom (LoadsState 128 saved_bytes) 113
  pub no_variant : RefusesRoom (LoadsState 20 saved_bytes) 113
  pub behind : (first next : List ℕ) (begun fed : Bool) → InitsState 160 (replicate 113 7) first begun
      → UpdatesState first abc next fed → drop 93 next ≡ replicate 20 7

-- the HMAC state of "Hi There" under that key, with OpenSSL's words; with its hash states exchanged, which no known
-- text leads to; and with an outer state that is none
pub record WorkedHmacStates : Type 0 where
  pub finalized : Gives (FinalizesHmac (kept_hmac (soiled 37 saved_inner) (soiled 29 saved_outer))) 20 (hexadecimal tag)
  pub exchanged : Gives (FinalizesHmac (kept_hmac saved_outer saved_inner)) 20 (codes "d3bf98f0f2a707ceca9a4fa0c3be4bc09682b8f6")
  pub saved : Gives (SavesHmac (kept_hmac (soiled 37 saved_inner) (soiled 29 saved_outer))) 184
      (hexadecimal (saved_inner ++ saved_outer))
  pub loaded : (any next : List ℕ) (done : Bool) → LoadsHmac 160 (saved_inner ++ saved_outer) any next done
      → IsTrue done × Gives (FinalizesHmac next) 20 (hexadecimal tag) × (drop 185 next ≡ drop 185 any)
  pub short : RefusesRoom (FinalizesHmac (kept_hmac saved_inner saved_outer)) 19
  pub not_finalized : RefusesRoom (FinalizesHmac (kept_hmac saved_inner forged)) 20
  pub other_kind : (answer : Bool) → VerifiesHmac (20 ∷ (saved_inner ++ saved_outer) ++ replicate 40 0) tag answer → IsFalse answer
  pub other_mark : RefusesRoom (FinalizesHmac (169 ∷ replicate 224 0)) 40
  pub verified : (bytes : List ℕ) (answer : Bool) → VerifiesHmac (kept_hmac saved_inner saved_outer) bytes answer
      → IsTrue answer ↔ (bytes ≡ tag)
  pub not_verified : (some : List ℕ) (answer : Bool) → VerifiesHmac (kept_hmac saved_inner forged) some answer
      → IsFalse answer
  pub not_updated : (piece new : List ℕ) (done : Bool) → UpdatesHmac (kept_hmac saved_inner forged) piece new done
      → Refuses (kept_hmac saved_inner forged) new done
  pub short_saved : RefusesRoom (SavesHmac (kept_hmac saved_inner saved_outer)) 183
  pub not_saved : RefusesRoom (SavesHmac (kept_hmac saved_inner forged)) 184
  pub not_zeros : RefusesRoom (LoadsHmac 160 (saved_inner ++ soiled 29 saved_outer)) 225
  pub no_variant : RefusesRoom (LoadsHmac 20 (saved_inner ++ saved_outer)) 225
  pub tagged : (any first next : List ℕ) (begun fed : Bool) → InitsHmac 160 key any first begun
      → UpdatesHmac first (codes "Hi There") next fed
      → IsTrue begun × IsTrue fed × Gives (FinalizesHmac next) 20 (hexadecimal tag)

-- ---- records and lists

-- "abc", "abd" and "abc"
abbrev pub three_digests : List ℕ
three_digests =
    codes "8eb208f7e05d987a9b044a8e98c6b087f15a0bfcb0a79cc77e333ea11974e105cd051d33836928b08eb208f7e05d987a9b044a8e98c6b087f15a0bfc"

-- by a call for records of three bytes, and by one for these messages
abbrev pub Each : (bytes old new : List ℕ) → Bool → Type 0
Each bytes = WritesEachDigest 160 bytes 3

abbrev pub Listed : (messages : List (List ℕ)) → (old new : List ℕ) → Bool → Type 0
Listed = WritesDigests 160

pub record WorkedLists : Type 0 where
  pub records : Gives (Each (codes "abcabdabc")) 60 three_digests
  pub no_records : Gives (Each []) 0 []
  pub empty_records : Gives (WritesEachDigest 160 [] 0) 40
      (codes "9c1185a5c5e9fc54612808977ee8f548b2258d319c1185a5c5e9fc54612808977ee8f548b2258d31")
  pub few_bytes : RefusesRoom (Each (codes "abcabdab")) 60
  pub more_bytes : RefusesRoom (Each (codes "abcabdabca")) 60
  pub little_room : RefusesRoom (Each (codes "abcabdabc")) 59
  pub list : Gives (Listed (abc ∷ codes "abd" ∷ abc ∷ [])) 60 three_digests
  pub no_messages : Gives (Listed []) 0 []
  pub less_room : RefusesRoom (Listed (abc ∷ abc ∷ [])) 20
  pub tags_of_records : Gives (WritesEachTag 160 key (codes "Hi ThereHi There") 8) 40 (hexadecimal (tag ++ tag))
  pub tags : Gives (WritesTags 160 key (codes "Hi There" ∷ codes "Hi There" ∷ [])) 40 (hexadecimal (tag ++ tag))

-- ---- lists of keys

-- from "password" and "salt", and from "secret" and "pepper"
abbrev pub Keys : (rounds size : ℕ) → (old new : List ℕ) → Bool → Type 0
Keys = DerivesKeys 160 (codes "password" ∷ codes "secret" ∷ []) (codes "salt" ∷ codes "pepper" ∷ [])

pub record WorkedKeyLists : Type 0 where
  pub no_rounds_of_none : RefusesRoom (DerivesKeys 160 [] [] 0 20) 0
  pub list : Gives (Keys 2 25) 50
      (codes "768dcc27b7bfdef794a1ff9d935090fcf598555e66913180b9d92ac58575f940a39c429575de3180045194d5488ed8de5ccd")
  pub no_passwords : (size : ℕ) → size ≤ 20 * (2 ^ 32 - 1) → Gives (DerivesKeys 160 [] [] 1 size) 0 []
  pub too_long_of_none : RefusesRoom (DerivesKeys 160 [] [] 1 (20 * (2 ^ 32 - 1) + 1)) 0
  pub other_room : RefusesRoom (Keys 2 25) 49
  pub one_salt : RefusesRoom (DerivesKeys 160 (codes "password" ∷ codes "secret" ∷ []) (codes "salt" ∷ []) 2 25) 50
  pub more_salts : RefusesRoom (DerivesKeys 160 (codes "password" ∷ []) (codes "salt" ∷ codes "pepper" ∷ []) 2 25) 25
  pub blocks_of_list : Gives (FillsKeys five 1 ([] ∷ []) ([] ∷ []) 2 3) 3 (codes "000000")
