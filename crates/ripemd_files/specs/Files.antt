-- What reading a file to its end comes to.
use Rattle.std.specs.Prelude.{◌≡◌, ℕ, ◌^◌, ◌<◌, ◌≤◌, ◌⊎◌, List, [], length, take, Option, None, ⊤}
use Rattle.std.specs.List.{AllZip}
use Rattle.std.specs.Io.KnownBytes.{Consumes, IsAtEnd}
use Rattle.std.specs.IoError.{error_kind}
use Rattle.ripemd_files.specs.Types.{Error, Variant, R128, R160, R256, R320, Content, Short, Read, Outcome, Digest, Refused, Broken}
use Rattle.std.specs.declared.io.ErrorKind.TheVariants.{FileTooLarge}
use Rattle.ripemd.specs.Standard.{Parameters, ripemd128, ripemd160, ripemd256, ripemd320}

-- the variant of the definitions that a line names
abbrev pub parameters_of : Variant → Parameters
parameters_of R128 = ripemd128
parameters_of R160 = ripemd160
parameters_of R256 = ripemd256
parameters_of R320 = ripemd320

-- a file that was opened so and is left so gave these bytes
pub record Gave {File : Type 0} (IsOpened : File → Type 0) (left : File → Option (List ℕ)) (bytes : List ℕ) (now : File) : Type 0 where
  pub opened : File
  pub is_opened : IsOpened opened
  pub given : Consumes (left opened) (left now) bytes

-- a file that was opened so gave this message and ended; the length of the message in bits fits into 64 bits
pub record Gives {File : Type 0} (IsOpened : File → Type 0) (left : File → Option (List ℕ)) (message : List ℕ) : Type 0 where
  pub ended : File
  pub gave : Gave IsOpened left message ended
  pub at_end : IsAtEnd (left ended)
  pub fits : length message < 2 ^ 61

-- Reading a file that was opened so ends with this error: the read after these bytes may fail with it; or they are 2^61 or more, and
-- it says that the file is too large.
pub record Breaks {File : Type 0} (IsOpened : File → Type 0) (left : File → Option (List ℕ)) (may_fail : File → Error → Type 0) (error : Error)
    : Type 0 where
  pub bytes : List ℕ
  pub now : File
  pub gave : Gave IsOpened left bytes now
  pub fails : may_fail now error ⊎ ((2 ^ 61 ≤ length bytes) × (error_kind error ≡ FileTooLarge))

-- What a folder is: which files a name opens there, and which errors opening it gives; what an opened file has
-- left, where that is known, whether it may still be read, as not after its end or a failed read, and with which errors that may fail.
pub record Place (File : Type 0) : Type 1 where
  pub opens : List ℕ → File → Type 0
  pub refuses : List ℕ → Error → Type 0
  pub left : File → Option (List ℕ)
  pub readable : File → Type 0
  pub may_fail : File → Error → Type 0

-- a folder of which nothing is known
abbrev pub any_place : {File : Type 0} → Place File
any_place = record { opens = λ name file. ⊤; refuses = λ name error. ⊤; left = λ file. None; readable = λ file. ⊤; may_fail = λ file error. ⊤ }

-- reading the file of a name comes to this digest or error
abbrev pub ComesTo : {File : Type 0} → Place File → (List ℕ → List ℕ) → List ℕ → Outcome → Type 0
ComesTo place hash name (Digest digest) = (message : List ℕ) × Gives (place.opens name) place.left message × (digest.items ≡ hash message)
ComesTo place hash name (Refused error) = place.refuses name error
ComesTo place hash name (Broken error) = Breaks (place.opens name) place.left place.may_fail error

-- these belong, in order, to the first of some items, and to one at least
pub record OfFirst {A B : Type 0} (R : A → B → Type 0) (items : List A) (found : List B) : Type 0 where
  pub some : 0 < length items → 0 < length found
  pub within : length found ≤ length items
  pub each : AllZip R (take (length found) items) found

-- ---- what a file gave, as it is read

-- the outcome is this digest
abbrev pub IsDigest : Outcome → List ℕ → Type 0
IsDigest (Digest digest) bytes = digest.items ≡ bytes
IsDigest (Refused error) bytes = ⊥
IsDigest (Broken error) bytes = ⊥

-- the file of a name has this content
abbrev pub IsContent : {File : Type 0} → Place File → (hash : List ℕ → List ℕ) → List ℕ → Content → Type 0
IsContent place hash name (Short message) = Gives (place.opens name) place.left message.items
IsContent place hash name (Read outcome) = ComesTo place hash name outcome

-- the message of a short file; of all others the empty one
abbrev pub message_in : Content → List ℕ
message_in (Short message) = message.items
message_in (Read outcome) = []

-- what came of a file with this content
abbrev pub Follows : (hash : List ℕ → List ℕ) → Content → Outcome → Type 0
Follows hash (Short message) outcome = IsDigest outcome (hash message.items)
Follows hash (Read read) outcome = outcome ≡ read
