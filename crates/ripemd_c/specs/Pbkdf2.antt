-- What calls that derive keys from passwords do.
use Rattle.std.specs.Prelude.{◌≡◌, ◌≢◌, ◌≤◌, ℕ, ◌-◌, ◌*◌, ◌^◌, Bool, List, length}
use Rattle.ripemd.specs.Standard.{ripemd}
use Rattle.ripemd_mac.specs.Hmac.{hmac}
use Rattle.ripemd_mac.specs.Pbkdf2.{pbkdf2}
use Rattle.ripemd_batch.specs.Pbkdf2.{pbkdf2_each}
use Rattle.ripemd_c.specs.Variants.{ByVariant, Writes, digest_size}

-- at least one round and at most 2^32 - 1 digests of this size are allowed
abbrev pub Allowed : (width rounds size : ℕ) → Type 0
Allowed width rounds size = (rounds ≢ 0) × (size ≤ (2 ^ 32 - 1) * width)

-- a call fills a place with the key that PBKDF2 derives with HMAC over a hash function, whose digests have this size,
-- exactly if that is allowed
abbrev pub FillsKey : (hash : List ℕ → List ℕ) → (width : ℕ) → (password salt : List ℕ) → (rounds : ℕ)
    → (old new : List ℕ) → Bool → Type 0
FillsKey hash width password salt rounds old new done =
    Writes (Allowed width rounds (length old)) (pbkdf2 (hmac hash) width password salt rounds (length old)) old new done

-- a call does so by the variant of a number
abbrev pub DerivesKey : (bits : ℕ) → (password salt : List ℕ) → (rounds : ℕ) → (old new : List ℕ) → Bool → Type 0
DerivesKey bits password salt rounds = ByVariant bits (λ v. FillsKey (ripemd v) (digest_size v) password salt rounds)

-- a call fills a place with the keys of one size that PBKDF2 derives with HMAC over a hash function from passwords
-- and their salts, one after another
abbrev pub FillsKeys : (hash : List ℕ → List ℕ) → (width : ℕ) → (passwords salts : List (List ℕ)) → (rounds size : ℕ)
    → (old new : List ℕ) → Bool → Type 0
FillsKeys hash width passwords salts rounds size old new done =
    Writes (Allowed width rounds size × (length salts ≡ length passwords) × (length old ≡ size * length passwords))
    (pbkdf2_each (hmac hash) width passwords salts rounds size) old new done

-- a call does so by the variant of a number
abbrev pub DerivesKeys : (bits : ℕ) → (passwords salts : List (List ℕ)) → (rounds size : ℕ) → (old new : List ℕ) → Bool → Type 0
DerivesKeys bits passwords salts rounds size =
    ByVariant bits (λ v. FillsKeys (ripemd v) (digest_size v) passwords salts rounds size)
