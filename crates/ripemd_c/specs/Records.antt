-- Records of one size that lie one after another in some bytes, and what calls over records and lists do.
use Rattle.std.specs.Prelude.{◌≡◌, ℕ, ◌+◌, ◌*◌, ◌/◌, Bool, List, length, map, slice_range}
use Rattle.std.specs.List.{flat_map, range_with_len}
use Rattle.ripemd.specs.Standard.{ripemd}
use Rattle.ripemd_mac.specs.Hmac.{hmac}
use Rattle.ripemd_c.specs.Variants.{ByVariant, Writes, digest_size}

-- record i: `size` bytes from i * size on
abbrev pub record_at : ℕ → List ℕ → ℕ → List ℕ
record_at size bytes i = slice_range bytes (i * size) (i * size + size)

-- n records from record i on
abbrev pub records : (i n size : ℕ) → List ℕ → List (List ℕ)
records i n size bytes = map (record_at size bytes) (range_with_len i n)

-- ---- calls

-- a call writes the outputs of messages, of so many bytes each, one after another: exactly if its place is as long as
-- all of them
abbrev pub FillsList : (width : ℕ) → (output_of : List ℕ → List ℕ) → (messages : List (List ℕ))
    → (old new : List ℕ) → Bool → Type 0
FillsList width output_of messages old new done =
    Writes (length old ≡ length messages * width) (flat_map output_of messages) old new done

-- a call does so with records: exactly if its place is a whole number of outputs, and the bytes are as many records
abbrev pub FillsEach : (width : ℕ) → (output_of : List ℕ → List ℕ) → (bytes : List ℕ) → (size : ℕ)
    → (old new : List ℕ) → Bool → Type 0
FillsEach width output_of bytes size old new done =
    Writes ((length old ≡ length old / width * width) × (length bytes ≡ length old / width * size))
    (flat_map output_of (records 0 (length old / width) size bytes)) old new done

-- calls do so with digests, and with tags under a key, by the variant of a number
abbrev pub WritesDigests : (bits : ℕ) → (messages : List (List ℕ)) → (old new : List ℕ) → Bool → Type 0
WritesDigests bits messages = ByVariant bits (λ v. FillsList (digest_size v) (ripemd v) messages)

abbrev pub WritesTags : (bits : ℕ) → (key : List ℕ) → (texts : List (List ℕ)) → (old new : List ℕ) → Bool → Type 0
WritesTags bits key texts = ByVariant bits (λ v. FillsList (digest_size v) (hmac (ripemd v) key) texts)

abbrev pub WritesEachDigest : (bits : ℕ) → (bytes : List ℕ) → (size : ℕ) → (old new : List ℕ) → Bool → Type 0
WritesEachDigest bits bytes size = ByVariant bits (λ v. FillsEach (digest_size v) (ripemd v) bytes size)

abbrev pub WritesEachTag : (bits : ℕ) → (key bytes : List ℕ) → (size : ℕ) → (old new : List ℕ) → Bool → Type 0
WritesEachTag bits key bytes size = ByVariant bits (λ v. FillsEach (digest_size v) (hmac (ripemd v) key) bytes size)
