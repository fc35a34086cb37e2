-- What the program is asked for.
use Rattle.std.specs.Prelude.{◌≡◌, ℕ, ◌&&◌, Bool, true, false, if◌then◌else◌, List, [], ◌∷◌, map, codes, Option, Some, None, unwrap_or, option_map, is_some, IsSome, slice_get, vec_items, ◌⊎◌}
use Rattle.ripemd_files.specs.declared.line.Variant.{Variant}
use Rattle.ripemd_files.specs.declared.line.Variant.TheVariants.{R160}
use Rattle.ripemd_files.specs.declared.line.Form.{Form}
use Rattle.ripemd_files.specs.declared.line.Ending.{Ending}
use Rattle.ripemd_files.specs.declared.verdict.Options.{Options}
use Rattle.ripemd_files.specs.declared.line.Form.TheVariants as forms
use Rattle.ripemd_files.specs.declared.line.Ending.TheVariants as endings
use Rattle.rmdsum.specs.Types.{Flag, Misuse, TextWithTag, ZeroWithCheck, TagWithCheck, ModeWithCheck, OnlyWithCheck, ExtraOperand, NameSource, Operands, From, Request, Help, Version, Run, Work, Print, Check, Settings}
use Rattle.rmdsum.specs.declared.switches.Flag.TheVariants as flags
use Rattle.rmdsum.specs.Options.{Said, is, gives, last, names_of, hash_in, file_in, mode_in, telling_in}

-- ---- options that exclude one another

-- an option that only a check has a use for
abbrev pub needs_check : Bool → Option Flag → Bool → Option Flag
needs_check true telling strict = Some flags.IgnoreMissing
needs_check false (Some flag) strict = Some flag
needs_check false None strict = if strict then Some flags.Strict else None

-- an option that a check excludes
abbrev pub excluded : Bool → Bool → Option Flag → Option Misuse
excluded zero tag mode =
    if zero then Some ZeroWithCheck
    else if tag then Some TagWithCheck
    else if is_some mode then Some ModeWithCheck
    else None

-- in the order in which `sha256sum` looks
abbrev pub conflict : List Said → Option Misuse
conflict words =
    if gives flags.Tag words && is flags.Text (last mode_in words) then Some TextWithTag
    else if gives flags.Check words then excluded (gives flags.Zero words) (gives flags.Tag words) (last mode_in words)
    else option_map OnlyWithCheck (needs_check (gives flags.IgnoreMissing words) (last telling_in words) (gives flags.Strict words))

-- ---- what is asked for

-- without a name, standard input
abbrev pub or_input : List (List ℕ) → List (List ℕ)
or_input [] = codes "-" ∷ []
or_input (name ∷ names) = name ∷ names

-- the request takes the names that were given, or those of the file, and never both
abbrev pub AreNames : Option (List ℕ) → List (List ℕ) → NameSource → Type 0
AreNames file names (Operands operands) = (file ≡ None) × (map vec_items operands.items ≡ or_input names)
AreNames file names (From from) = (file ≡ Some from.items) × (names ≡ [])

abbrev pub form_of : Bool → Option Flag → Form
form_of true mode = forms.Tagged
form_of false mode = if is flags.Binary mode then forms.Binary else forms.Text

abbrev pub options_of : List Said → Options
options_of words = record {
  ignore_missing = gives flags.IgnoreMissing words;
  quiet = is flags.Quiet (last telling_in words);
  status = is flags.Status (last telling_in words);
  strict = gives flags.Strict words;
  warn = is flags.Warn (last telling_in words);
}

abbrev pub ending_of : Bool → Ending
ending_of zero = if zero then endings.Zero else endings.Newline

-- RIPEMD-160, unless one is named
abbrev pub variant_of : List Said → Variant
variant_of words = unwrap_or (last hash_in words) R160

abbrev pub work_of : List Said → Work
work_of words =
    if gives flags.Check words then Check (last hash_in words) (options_of words)
    else Print (record {
      variant = variant_of words;
      form = form_of (gives flags.Tag words) (last mode_in words);
      ending = ending_of (gives flags.Zero words);
    })

-- these words ask for this
abbrev pub Asks : List Said → Request → Type 0
Asks words Help = true ≡ false
Asks words Version = true ≡ false
Asks words (Run work names progress) =
    (conflict words ≡ None) × (work ≡ work_of words) × AreNames (last file_in words) (names_of words) names
    × (progress ≡ gives flags.Progress words)

-- an operand beside `--files0-from`
abbrev pub IsExtra : Option (List ℕ) → List (List ℕ) → Misuse → Type 0
IsExtra file names (ExtraOperand operand) = IsSome file × (slice_get names 0 ≡ Some operand.items)
IsExtra file names _ = true ≡ false

-- these words are refused so
abbrev pub IsRefused : List Said → Misuse → Type 0
IsRefused words misuse = (conflict words ≡ Some misuse) ⊎ ((conflict words ≡ None) × IsExtra (last file_in words) (names_of words) misuse)

-- these settings are what the words say
pub record Holds (words : List Said) (settings : Settings) : Type 0 where
  pub variant : settings.variant ≡ last hash_in words
  pub check : settings.check ≡ gives flags.Check words
  pub mode : settings.mode ≡ last mode_in words
  pub tag : settings.tag ≡ gives flags.Tag words
  pub zero : settings.zero ≡ gives flags.Zero words
  pub telling : settings.telling ≡ last telling_in words
  pub ignore_missing : settings.ignore_missing ≡ gives flags.IgnoreMissing words
  pub strict : settings.strict ≡ gives flags.Strict words
  pub progress : settings.progress ≡ gives flags.Progress words
  pub names_in : option_map vec_items settings.names_in ≡ last file_in words
  pub names : map vec_items settings.names.items ≡ names_of words
