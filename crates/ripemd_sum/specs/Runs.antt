-- What a run of the program reads and writes.
use Rattle.std.specs.Prelude.{◌≡◌, ℕ, ◌+◌, ◌-◌, ◌^◌, ◌<◌, ◌≤◌, true, false, List, ◌++◌, length, codes, Option}
use Rattle.std.specs.Io.KnownBytes.{Appends, Consumes, IsAtEnd}
use Rattle.hex.specs.Hex.{encode_lower}
use Rattle.ripemd.specs.Standard.{Parameters, ripemd128, ripemd160, ripemd256, ripemd320, ripemd}
use Rattle.ripemd_mac.specs.Hmac.{hmac}
use Rattle.ripemd_sum.specs.Types.{Tracked, Variant, R128, R160, R256, R320}

-- the variant of the definitions that a variant of the program names
abbrev pub parameters_of : Variant → Parameters
parameters_of R128 = ripemd128
parameters_of R160 = ripemd160
parameters_of R256 = ripemd256
parameters_of R320 = ripemd320

-- the line of a message: its digest in lower case hexadecimal, and a newline
abbrev pub digest_line : Variant → List ℕ → List ℕ
digest_line v message = encode_lower (ripemd (parameters_of v) message) ++ codes "\n"

-- the line of a message under a key: its tag in lower case hexadecimal, and a newline
abbrev pub tag_line : Variant → List ℕ → List ℕ → List ℕ
tag_line v key message = encode_lower (hmac (ripemd (parameters_of v)) key message) ++ codes "\n"

-- the longest input, in bytes: its length in bits fits into 64 bits
abbrev pub most_bytes : ℕ
most_bytes = 2 ^ 61 - 1

-- the longest input with a key, whose block of 64 bytes is hashed before it
abbrev pub most_bytes_under_a_key : ℕ
most_bytes_under_a_key = most_bytes - 64

-- before a run: neither the reader nor the writer has failed, and the reader has given nothing yet
pub record Ready {R W : Type 0} (reader : Tracked R) (writer : Tracked W) : Type 0 where
  pub reader_works : reader.failed ≡ false
  pub reader_fresh : reader.taken ≡ 0
  pub writer_works : writer.failed ≡ false

-- the reader gave these bytes between two of its states, and they were counted
pub record Gives {R : Type 0} (remaining : R → Option (List ℕ)) (old new : Tracked R) (bytes : List ℕ) : Type 0 where
  pub given : Consumes (remaining old.inner) (remaining new.inner) bytes
  pub counted : new.taken ≡ old.taken + length bytes

-- the reader gave this message, within the limit, to its end, and did not fail
pub record GivesAll {R : Type 0} (remaining : R → Option (List ℕ)) (old new : Tracked R) (limit : ℕ)
    (message : List ℕ) : Type 0 where
  pub gives : Gives remaining old new message
  pub within : length message ≤ limit
  pub ended : IsAtEnd (remaining new.inner)
  pub works : new.failed ≡ false

-- the reader failed, after no more bytes than the limit
pub record FailsToGive {R : Type 0} (remaining : R → Option (List ℕ)) (old new : Tracked R) (limit : ℕ) : Type 0 where
  pub bytes : List ℕ
  pub gives : Gives remaining old new bytes
  pub within : length bytes ≤ limit
  pub fails : new.failed ≡ true

-- the reader gave more bytes than the limit, by at most 4096, and did not fail
pub record GivesTooMuch {R : Type 0} (remaining : R → Option (List ℕ)) (old new : Tracked R) (limit : ℕ) : Type 0 where
  pub bytes : List ℕ
  pub gives : Gives remaining old new bytes
  pub over : limit < length bytes
  pub near : length bytes ≤ limit + 4096
  pub works : new.failed ≡ false

-- the writer got these bytes and no others, and did not fail
pub record Gets {W : Type 0} (contents : W → Option (List ℕ)) (old new : Tracked W) (bytes : List ℕ) : Type 0 where
  pub written : Appends (contents old.inner) (contents new.inner) bytes
  pub works : new.failed ≡ false
