-- The variants as callers name them, and what calls do at one of them.
use Rattle.std.specs.Prelude.{◌≡◌, ◌↔◌, ℕ, ◌*◌, ◌==◌, if◌then◌else◌, Option, Some, None, List, length, Bool, IsTrue, IsFalse}
use Rattle.ripemd.specs.Standard.{Parameters, ripemd128, ripemd160, ripemd256, ripemd320, ripemd}
use Rattle.ripemd_mac.specs.Hmac.{hmac}

-- the variant whose digests have so many bits, if there is one
abbrev pub variant_of : ℕ → Option Parameters
variant_of bits =
    if bits == 128 then Some ripemd128
    else if bits == 160 then Some ripemd160
    else if bits == 256 then Some ripemd256
    else if bits == 320 then Some ripemd320
    else None

-- the bytes of its digests
abbrev pub digest_size : Parameters → ℕ
digest_size v = 4 * length v.start

-- Does at the variant of a number, and Otherwise if there is none
abbrev pub AtVariant : (bits : ℕ) → (Does : Parameters → Type 0) → (Otherwise : Type 0) → Type 0
AtVariant bits Does Otherwise = at (variant_of bits)
  where
    at : Option Parameters → Type 0
    at (Some v) = Does v
    at None = Otherwise

-- a call answers false and leaves all as it was
abbrev pub Refuses : (old new : List ℕ) → Bool → Type 0
Refuses old new done = IsFalse done × (new ≡ old)

-- a call does this at the variant of a number, and refuses if there is none
abbrev pub ByVariant : (bits : ℕ) → (Does : Parameters → (old new : List ℕ) → Bool → Type 0) → (old new : List ℕ) → Bool → Type 0
ByVariant bits Does old new done = AtVariant bits (λ v. Does v old new done) (Refuses old new done)

-- a call writes an output exactly if its arguments fit, and answers whether it did; otherwise all is as it was
pub record Writes (Fits : Type 0) (output old new : List ℕ) (done : Bool) : Type 0 where
  pub fits : IsTrue done ↔ Fits
  pub written : IsTrue done → new ≡ output
  pub unchanged : IsFalse done → new ≡ old

-- a call writes the digest of a message, or the tag of a text under a key, to a place of its size
abbrev pub WritesDigest : (bits : ℕ) → (message old new : List ℕ) → Bool → Type 0
WritesDigest bits message = ByVariant bits (λ v old. Writes (length old ≡ digest_size v) (ripemd v message) old)

abbrev pub WritesTag : (bits : ℕ) → (key text old new : List ℕ) → Bool → Type 0
WritesTag bits key text = ByVariant bits (λ v old. Writes (length old ≡ digest_size v) (hmac (ripemd v) key text) old)

-- a call answers whether some bytes are that tag, all of them; there is none where there is no such variant
abbrev pub VerifiesTag : (bits : ℕ) → (key text tag : List ℕ) → Bool → Type 0
VerifiesTag bits key text tag answer = AtVariant bits (λ v. IsTrue answer ↔ (tag ≡ hmac (ripemd v) key text)) (IsFalse answer)
