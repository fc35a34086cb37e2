-- Worked cases of what the program promises, as facts that these definitions compute to. The digests
-- are the authors', and the tag is that of RFC 2286.
use Rattle.std.specs.Prelude.{◌≡◌, ℕ, Bool, true, false, List, [], ◌∷◌, Option, None, Some, codes, replicate}
use Rattle.ripemd_sum.specs.Types.{Error, Variant, R128, R160, R256, R320, Read, TooLong, Write, Tracked, RunFault}
use Rattle.ripemd_sum.specs.Arguments.{Chooses, IsKeyText, ChoosesMac, HasKey, AsksNothing}
use Rattle.ripemd_sum.specs.Runs.{digest_line, tag_line, GivesAll, Gets}
use Rattle.ripemd_sum.specs.Faults.{message_of, ExplainsRun}

-- ---- lines

-- the lines of "abc"
pub record LinesOfAbc : Type 0 where
  pub of128 : digest_line R128 (codes "abc") ≡ codes "c14a12199c66e4ba84636b0f69144c77\n"
  pub of160 : digest_line R160 (codes "abc") ≡ codes "8eb208f7e05d987a9b044a8e98c6b087f15a0bfc\n"
  pub of256 : digest_line R256 (codes "abc")
      ≡ codes "afbd6e228b9d8cbbcef5ca2d03e6dba10ac0bc7dcbe4680e1e42d2e975459b65\n"
  pub of320 : digest_line R320 (codes "abc")
      ≡ codes "de4c01b3054f8930a79d09ae738e92301e5a17085beffdc1b8d116713e74f82fa942d64cdbc4682d\n"

-- the line of "Hi There" under a key of twenty bytes 0x0b
abbrev pub LineOfATag : Type 0
LineOfATag = tag_line R160 (replicate 20 0x0b) (codes "Hi There") ≡ codes "24cb4bd67d20fc1a5d2ed7732dcc39377f0a5668\n"

-- ---- arguments

-- arguments that ask for a digest
pub record AskForDigests : Type 0 where
  pub by_default : Chooses [] R160
  pub of128 : Chooses (codes "128" ∷ []) R128
  pub of160 : Chooses (codes "160" ∷ []) R160
  pub of256 : Chooses (codes "256" ∷ []) R256
  pub of320 : Chooses (codes "320" ∷ []) R320

-- these arguments ask for a tag of a variant under this key, of this number of bytes
pub record AskForATag (arguments : List (List ℕ)) (v : Variant) (count : ℕ) (key : List ℕ) : Type 0 where
  pub choose : ChoosesMac arguments v count
  pub have : HasKey arguments key

pub record AskForTags : Type 0 where
  pub of128 : AskForATag (codes "128" ∷ codes "hmac" ∷ codes "" ∷ []) R128 0 []
  pub of160 : AskForATag (codes "160" ∷ codes "hmac" ∷ codes "0B0b" ∷ []) R160 2 (11 ∷ 11 ∷ [])
  pub of256 : AskForATag (codes "256" ∷ codes "hmac" ∷ codes "fF00" ∷ []) R256 2 (255 ∷ 0 ∷ [])
  pub of320 : AskForATag (codes "320" ∷ codes "hmac" ∷ codes "9a" ∷ []) R320 1 (0x9a ∷ [])

-- arguments that ask for nothing
pub record AskForNothing : Type 0 where
  pub other_length : AsksNothing (codes "512" ∷ [])
  pub no_name : AsksNothing (codes "" ∷ [])
  pub two_names : AsksNothing (codes "128" ∷ codes "160" ∷ [])
  pub no_key : AsksNothing (codes "160" ∷ codes "hmac" ∷ [])
  pub other_word : AsksNothing (codes "160" ∷ codes "HMAC" ∷ codes "00" ∷ [])
  pub other_variant : AsksNothing (codes "512" ∷ codes "hmac" ∷ codes "00" ∷ [])
  pub odd_key : AsksNothing (codes "160" ∷ codes "hmac" ∷ codes "0b0" ∷ [])
  pub bad_digit : AsksNothing (codes "160" ∷ codes "hmac" ∷ codes "0g" ∷ [])
  pub one_more : AsksNothing (codes "160" ∷ codes "hmac" ∷ codes "00" ∷ codes "00" ∷ [])

-- ---- errors

-- the lines of errors, whatever the error of the read or the write was
pub record LinesOfErrors : Type 0 where
  pub of_read : (error : Error) → message_of (Read error) ≡ codes "ripemd_sum: read error"
  pub of_limit : message_of TooLong ≡ codes "ripemd_sum: input too long"
  pub of_write : (error : Error) → message_of (Write error) ≡ codes "ripemd_sum: write error"

-- ---- the lengths of keys

-- keys have at most 128 digits, and never an odd number of them
pub record LengthsOfKeys : Type 0 where
  pub most : IsKeyText (replicate 128 0x30) 64
  pub odd : (count : ℕ) → ¬ IsKeyText (replicate 129 0x30) count
  pub too_long : (count : ℕ) → ¬ IsKeyText (replicate 130 0x30) count

-- ---- runs

-- a reader or a writer that tells nothing of its bytes; of one whose bytes are known these are `Some`
abbrev pub unknown : List ℕ → Option (List ℕ)
unknown bytes = None

-- a reader or a writer of these bytes, whether it has failed, and how many bytes it has given
abbrev pub tracked : List ℕ → Bool → ℕ → Tracked (List ℕ)
tracked bytes failed taken = record { inner = bytes; failed = failed; taken = taken }

-- a reader of "abc" gives all of it, within a limit
abbrev pub GivesAbc : Tracked (List ℕ) → ℕ → Type 0
GivesAbc new limit = GivesAll Some (tracked (codes "abc") false 0) new limit (codes "abc")

pub record RunsToTheEnd : Type 0 where
  pub whole : GivesAbc (tracked [] false 3) 3
  pub too_long : ¬ GivesAbc (tracked [] false 3) 2
  pub not_ended : ¬ GivesAll Some (tracked (codes "abcd") false 0) (tracked (codes "d") false 3) 3 (codes "abc")
  pub other_bytes : ¬ GivesAll Some (tracked (codes "abd") false 0) (tracked [] false 3) 3 (codes "abc")
  pub not_counted : ¬ GivesAbc (tracked [] false 2) 3
  pub failed : ¬ GivesAbc (tracked [] true 3) 3

-- a writer that had got "a" gets "bc"
abbrev pub GetsBc : List ℕ → Bool → Type 0
GetsBc bytes failed = Gets Some (tracked (codes "a") false 0) (tracked bytes failed 0) (codes "bc")

pub record Writings : Type 0 where
  pub once : GetsBc (codes "abc") false
  pub twice : ¬ GetsBc (codes "abcbc") false
  pub failed : ¬ GetsBc (codes "abc") true

-- a run under the limit of 10, whose reader and writer have not been called before, ends with an error
abbrev pub Stops : Tracked (List ℕ) → Tracked (List ℕ) → RunFault → Type 0
Stops reader writer fault = ExplainsRun unknown (tracked [] false 0) reader (tracked [] false 0) writer 10 fault

pub record WorkedErrors (error : Error) : Type 0 where
  pub read : Stops (tracked [] true 10) (tracked [] false 0) (Read error)
  pub read_of_a_reader_that_works : ¬ Stops (tracked [] false 10) (tracked [] false 0) (Read error)
  pub read_past_the_limit : ¬ Stops (tracked [] true 11) (tracked [] false 0) (Read error)
  pub read_after_writing : ¬ Stops (tracked [] true 10) (tracked (codes "a") false 0) (Read error)
  pub too_long : Stops (tracked [] false 11) (tracked [] false 0) TooLong
  pub too_long_by_a_read : Stops (tracked [] false 4106) (tracked [] false 0) TooLong
  pub too_long_by_more : ¬ Stops (tracked [] false 4107) (tracked [] false 0) TooLong
  pub too_long_of_a_reader_that_fails : ¬ Stops (tracked [] true 11) (tracked [] false 0) TooLong
  pub too_long_within_the_limit : ¬ Stops (tracked [] false 10) (tracked [] false 0) TooLong
  pub too_long_after_writing : ¬ Stops (tracked [] false 11) (tracked (codes "a") false 0) TooLong
  pub write : Stops (tracked [] false 10) (tracked (codes "a") true 0) (Write error)
  pub write_of_a_writer_that_works : ¬ Stops (tracked [] false 10) (tracked (codes "a") false 0) (Write error)
  pub write_past_the_limit : ¬ Stops (tracked [] false 11) (tracked (codes "a") true 0) (Write error)
