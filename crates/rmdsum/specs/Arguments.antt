-- What the program's arguments say, by the rules of `getopt_long`.
use Rattle.std.specs.Prelude.{◌≡◌, ℕ, ◌*◌, ◌==◌, Bool, true, false, if◌then◌else◌, List, [], ◌∷◌, ◌++◌, reverse, Option, Some, None, option_map, unwrap_or, bytes_eq, Result, Ok, Err, ⊤}
use Rattle.std.specs.Fmt.{decimal}
use Rattle.ripemd_files.specs.Lines.{bits_of, size_of}
use Rattle.ripemd_files.specs.declared.line.Variant.{Variant}
use Rattle.ripemd_files.specs.declared.line.Variant.TheVariants.{R128, R160, R256, R320}
use Rattle.rmdsum.specs.Types.{Flag, Parameter, Algorithm, FilesFrom, Switch, Found, Nothing, One, Several, Misuse, Stop, Next, Any, Operand, Value, ShortValue, Request, Settings}
use Rattle.rmdsum.specs.declared.switches.Flag.TheVariants.{Help, Version}
use Rattle.rmdsum.specs.declared.switches.Switch.TheVariants as switches
use Rattle.rmdsum.specs.declared.refusals.Misuse.TheVariants as misuses
use Rattle.rmdsum.specs.declared.arguments.Stop.TheVariants as stops
use Rattle.rmdsum.specs.declared.request.Request.TheVariants as requests
use Rattle.rmdsum.specs.Options.{by_letter, by_name, Said}
use Rattle.rmdsum.specs.Options.Said.{Sets, Hashes, NamedIn, Names}
use Rattle.rmdsum.specs.Asked.{Asks, IsRefused, Holds}

-- ---- the names of the variants

-- the name of a variant is the length of its digest in bits
pub record NamesAreLengths : Type 0 where
  pub r128 : bits_of R128 ≡ decimal (8 * size_of R128)
  pub r160 : bits_of R160 ≡ decimal (8 * size_of R160)
  pub r256 : bits_of R256 ≡ decimal (8 * size_of R256)
  pub r320 : bits_of R320 ≡ decimal (8 * size_of R320)

abbrev pub variant_named : List ℕ → Option Variant
variant_named name =
    if bytes_eq name (bits_of R128) then Some R128
    else if bytes_eq name (bits_of R160) then Some R160
    else if bytes_eq name (bits_of R256) then Some R256
    else if bytes_eq name (bits_of R320) then Some R320
    else None

-- ---- what arguments say

-- why no more arguments are read
pub data Why : Type 0 where
  AsksHelp : Why
  AsksVersion : Why
  UnknownLong : List ℕ → Why
  Ambiguous : List ℕ → Why
  UnwantedValue : Flag → Why
  MissingValue : Parameter → Why
  UnknownShort : ℕ → Why
  MissingShortValue : ℕ → Why
  UnknownVariant : List ℕ → Why
  NotInReading : Why

-- these words, and what the next argument is; or why there is no next
pub data Reading : Type 0 where
  Goes : List Said → Next → Reading
  Stops : Why → Reading

abbrev pub added : List Said → Reading → Reading
added before (Goes words next) = Goes (before ++ words) next
added before (Stops why) = Stops why

-- what is said, and then what is said after it
abbrev pub then_reads : Reading → (Next → Reading) → Reading
then_reads (Goes words next) rest = added words (rest next)
then_reads (Stops why) rest = Stops why

-- `--help` and `--version` end the reading
abbrev pub flag_says : Flag → Reading
flag_says Help = Stops AsksHelp
flag_says Version = Stops AsksVersion
flag_says flag = Goes (Sets flag ∷ []) Any

abbrev pub value_says : Parameter → List ℕ → Reading
value_says Algorithm value = unwrap_or (option_map (λ variant. Goes (Hashes variant ∷ []) Any) (variant_named value)) (Stops (UnknownVariant value))
value_says FilesFrom value = Goes (NamedIn value ∷ []) Any

-- what stands before the first equals sign
abbrev pub before_equals : List ℕ → List ℕ
before_equals [] = []
before_equals (byte ∷ text) = if byte == 61 then [] else byte ∷ before_equals text

-- what stands after it, if there is one
abbrev pub after_equals : List ℕ → Option (List ℕ)
after_equals [] = None
after_equals (byte ∷ text) = if byte == 61 then Some text else after_equals text

abbrev pub switch_says : List ℕ → Found → Option (List ℕ) → Reading
switch_says text Nothing value = Stops (UnknownLong text)
switch_says text Several value = Stops (Ambiguous text)
switch_says text (One (switches.Flag flag)) None = flag_says flag
switch_says text (One (switches.Flag flag)) (Some value) = Stops (UnwantedValue flag)
switch_says text (One (switches.Parameter parameter)) None = Goes [] (Value parameter)
switch_says text (One (switches.Parameter parameter)) (Some value) = value_says parameter value

-- what stands after `--`
abbrev pub long_says : List ℕ → Reading
long_says text = switch_says text (by_name (before_equals text)) (after_equals text)

-- the letter of an option, and what stands after it
abbrev pub letter_says : ℕ → Option Switch → List ℕ → Reading → Reading
letter_says letter None value rest = Stops (UnknownShort letter)
letter_says letter (Some (switches.Flag flag)) value rest = then_reads (flag_says flag) (λ next. rest)
letter_says letter (Some (switches.Parameter parameter)) [] rest = Goes [] (ShortValue parameter letter)
letter_says letter (Some (switches.Parameter parameter)) (byte ∷ value) rest = value_says parameter (byte ∷ value)

-- letters after `-`
abbrev pub letters_say : List ℕ → Reading
letters_say [] = Goes [] Any
letters_say (letter ∷ letters) = letter_says letter (by_letter letter) letters (letters_say letters)

abbrev pub operand_says : Bool → List ℕ → Reading
operand_says last argument = Goes (Names argument ∷ []) (if last then Operand else Any)

-- what stands after a hyphen
abbrev pub option_says : List ℕ → Reading
option_says [] = letters_say []
option_says (byte ∷ []) = if byte == 45 then Goes [] Operand else letters_say (byte ∷ [])
option_says (byte ∷ other ∷ text) = if byte == 45 then long_says (other ∷ text) else letters_say (byte ∷ other ∷ text)

-- a hyphen alone is an operand
abbrev pub any_says : Bool → List ℕ → Reading
any_says last [] = operand_says last []
any_says last (byte ∷ []) = operand_says last (byte ∷ [])
any_says last (byte ∷ other ∷ text) = if byte == 45 then option_says (other ∷ text) else operand_says last (byte ∷ other ∷ text)

-- what an argument says
abbrev pub says : Bool → Next → List ℕ → Reading
says last Operand argument = Goes (Names argument ∷ []) Operand
says last (Value parameter) argument = value_says parameter argument
says last (ShortValue parameter letter) argument = value_says parameter argument
says last Any argument = any_says last argument

-- at the end no value may be missing
abbrev pub at_end : Next → Reading
at_end (Value parameter) = Stops (MissingValue parameter)
at_end (ShortValue parameter letter) = Stops (MissingShortValue letter)
at_end Operand = Goes [] Operand
at_end Any = Goes [] Any

-- what arguments say, of which the first is this
abbrev pub reading : Bool → Next → List (List ℕ) → Reading
reading last next [] = at_end next
reading last next (argument ∷ arguments) = then_reads (says last next argument) (λ following. reading last following arguments)

-- ---- the answer

-- the reason that a misuse names, if arguments alone give it
abbrev pub why_of : Misuse → Why
why_of (misuses.UnknownLong text) = UnknownLong text.items
why_of (misuses.Ambiguous text) = Ambiguous text.items
why_of (misuses.UnwantedValue flag) = UnwantedValue flag
why_of (misuses.MissingValue parameter) = MissingValue parameter
why_of (misuses.UnknownShort letter) = UnknownShort letter
why_of (misuses.MissingShortValue letter) = MissingShortValue letter
why_of (misuses.UnknownVariant name) = UnknownVariant name.items
why_of _ = NotInReading

-- a reading is answered so: by what its words ask for, or by why it stopped
abbrev pub Answers : Reading → Result Request Misuse → Type 0
Answers (Goes words next) (Ok request) = Asks (reverse words) request
Answers (Goes words next) (Err misuse) = IsRefused (reverse words) misuse
Answers (Stops AsksHelp) (Ok requests.Help) = ⊤
Answers (Stops AsksVersion) (Ok requests.Version) = ⊤
Answers (Stops why) (Ok request) = true ≡ false
Answers (Stops why) (Err misuse) = why_of misuse ≡ why

-- what was read is added to what the settings hold, of which the last comes first, and this is next, or why nothing is; or memory is exhausted
abbrev pub Reads : Reading → Settings → Settings → Result Next Stop → Type 0
Reads (Goes words next) before after (Ok now) = (next ≡ now) × ((earlier : List Said) → Holds earlier before → Holds (reverse words ++ earlier) after)
Reads (Goes words next) before after (Err stop) = stop ≡ stops.OutOfMemory
Reads (Stops why) before after (Ok now) = true ≡ false
Reads (Stops why) before after (Err stops.Help) = why ≡ AsksHelp
Reads (Stops why) before after (Err stops.Version) = why ≡ AsksVersion
Reads (Stops why) before after (Err (stops.Misuse misuse)) = why ≡ why_of misuse
Reads (Stops why) before after (Err stops.OutOfMemory) = ⊤
