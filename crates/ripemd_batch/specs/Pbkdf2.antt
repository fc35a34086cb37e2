-- Keys derived from passwords, many blocks of them side by side.
use Rattle.std.specs.Prelude.{ℕ, ◌<◌, ◌≡◌, ◌+◌, ◌-◌, ◌*◌, ◌/◌, ◌%◌, List, length, map}
use Rattle.std.specs.List.{range_with_len, flat_map, fold}
use Rattle.std.specs.Fn.{iterate}
use Rattle.std.specs.Int.Bits.{bit_xor}
use Rattle.std.specs.Simd.Lanes.{zip2}
use Rattle.ripemd_mac.specs.Hmac.{filled}
use Rattle.ripemd_mac.specs.Pbkdf2.{F, pbkdf2}
use Rattle.ripemd_batch.specs.Lanes.{hash_after, list_at}

-- the keys of dkLen bytes that PBKDF2 derives from each password and its salt, one after another
unfoldable pub pbkdf2_each : (PRF : List ℕ → List ℕ → List ℕ) → (hLen : ℕ) → (passwords salts : List (List ℕ))
    → (c dkLen : ℕ) → List ℕ
pbkdf2_each PRF hLen passwords salts c dkLen =
    flat_map (λ i. pbkdf2 PRF hLen (list_at passwords i) (list_at salts i) c dkLen) (range_with_len 0 (length passwords))

-- ---- the blocks of all of them

-- the passwords and salts, the rounds, and how many blocks each key has
pub record KeyList : Type 0 where
  pub passwords : List (List ℕ)
  pub salts : List (List ℕ)
  pub rounds : ℕ
  pub count : ℕ

-- block k of all, and the number of all
abbrev pub block_at : (PRF : List ℕ → List ℕ → List ℕ) → KeyList → (k : ℕ) → List ℕ
block_at PRF keys k =
    F PRF (list_at keys.passwords (k / keys.count)) (list_at keys.salts (k / keys.count)) keys.rounds (k % keys.count + 1)

abbrev pub total : KeyList → ℕ
total keys = keys.count * length keys.passwords

-- ---- eight blocks

-- a block of these bytes, as many as a digest has, and zeros
pub record IsFilled (count : ℕ) (room bytes : List ℕ) : Type 0 where
  pub block : room ≡ filled bytes
  pub size : length bytes ≡ count

-- eight blocks from block `from` on, as far as there are any
abbrev pub HasBlocks : (size : ℕ) → (PRF : List ℕ → List ℕ → List ℕ) → (keys : KeyList) → (from : ℕ) → (blocks : List (List ℕ)) → Type 0
HasBlocks size PRF keys from blocks =
    (j : ℕ) → j < 8 → from + j < total keys → IsFilled size (list_at blocks j) (block_at PRF keys (from + j))

-- the group of eight that block k is in, unless it begins the group
abbrev pub InGroup : (size : ℕ) → (PRF : List ℕ → List ℕ → List ℕ) → (keys : KeyList) → (k : ℕ) → (blocks : List (List ℕ)) → Type 0
InGroup size PRF keys k blocks = 0 < k % 8 → HasBlocks size PRF keys (k - k % 8) blocks

-- ---- tags of tags

-- the tag of a message, from the states after the two masked keys
abbrev pub tag_after : (List ℕ → List ℕ → List ℕ) → (List ℕ → List ℕ) → (inner outer message : List ℕ) → List ℕ
tag_after step output inner outer message = hash_after 64 outer step output (hash_after 64 inner step output message)

-- the exclusive or of so many tags: a first one, its tag, and so on
unfoldable pub combined_tags : (List ℕ → List ℕ) → ℕ → List ℕ → List ℕ
combined_tags tag count first =
    fold (zip2 bit_xor) first (map (λ j. iterate tag (j - 1) first) (range_with_len 2 (count - 1)))
