-- The options by their names, and what arguments say: options with their values, and operands.
use Rattle.std.specs.Prelude.{ℕ, ◌==◌, Bool, false, if◌then◌else◌, List, [], ◌∷◌, ◌++◌, codes, Option, Some, None, filter, nat_eq, bytes_eq}
use Rattle.std.specs.List.{starts_with, list_any}
use Rattle.std.specs.Option.{option_or}
use Rattle.ripemd_files.specs.declared.line.Variant.{Variant}
use Rattle.rmdsum.specs.Types.{Flag, Parameter, Algorithm, FilesFrom, Switch, Found, Nothing, One, Several, Binary, IgnoreMissing, Progress, Quiet, Status, Strict, Tag, Text, Warn, Zero}
use Rattle.rmdsum.specs.declared.switches.Switch.TheVariants as switches
use Rattle.rmdsum.specs.declared.switches.Flag.TheVariants.{Check, Help, Version}

-- what stands after `--`
abbrev pub flag_name : Flag → List ℕ
flag_name Binary = codes "binary"
flag_name Check = codes "check"
flag_name Help = codes "help"
flag_name IgnoreMissing = codes "ignore-missing"
flag_name Progress = codes "progress"
flag_name Quiet = codes "quiet"
flag_name Status = codes "status"
flag_name Strict = codes "strict"
flag_name Tag = codes "tag"
flag_name Text = codes "text"
flag_name Version = codes "version"
flag_name Warn = codes "warn"
flag_name Zero = codes "zero"

abbrev pub parameter_name : Parameter → List ℕ
parameter_name Algorithm = codes "algorithm"
parameter_name FilesFrom = codes "files0-from"

abbrev pub long_name : Switch → List ℕ
long_name (switches.Flag flag) = flag_name flag
long_name (switches.Parameter parameter) = parameter_name parameter

-- the option of a letter
abbrev pub by_letter : ℕ → Option Switch
by_letter letter =
    if letter == 97 then Some (switches.Parameter Algorithm)
    else if letter == 98 then Some (switches.Flag Binary)
    else if letter == 99 then Some (switches.Flag Check)
    else if letter == 116 then Some (switches.Flag Text)
    else if letter == 119 then Some (switches.Flag Warn)
    else if letter == 122 then Some (switches.Flag Zero)
    else None

-- all, as the message about an ambiguous one lists them
abbrev pub switches_in_order : List Switch
switches_in_order =
    switches.Flag Check ∷ switches.Flag IgnoreMissing ∷ switches.Flag Quiet ∷ switches.Flag Status ∷ switches.Flag Warn
    ∷ switches.Flag Strict ∷ switches.Flag Tag ∷ switches.Flag Zero ∷ switches.Parameter Algorithm ∷ switches.Flag Binary
    ∷ switches.Flag Text ∷ switches.Parameter FilesFrom ∷ switches.Flag Progress ∷ switches.Flag Help ∷ switches.Flag Version
    ∷ []

abbrev pub begins : List ℕ → Switch → Bool
begins name switch = starts_with nat_eq (long_name switch) name

abbrev pub alone : List Switch → Found
alone [] = Nothing
alone (switch ∷ []) = One switch
alone (switch ∷ other ∷ rest) = Several

-- The only option whose name begins so. No name here begins another, so that a whole name is one.
unfoldable pub by_name : List ℕ → Found
by_name name = alone (filter (begins name) switches_in_order)

-- ---- what arguments say

-- an option without a value, a hash, the name of a file that has names, the name of a file
pub data Said : Type 0 where
  Sets : Flag → Said
  Hashes : Variant → Said
  NamedIn : List ℕ → Said
  Names : List ℕ → Said

-- this is the option, which its name tells
abbrev pub is : Flag → Option Flag → Bool
is flag None = false
is flag (Some other) = bytes_eq (flag_name flag) (flag_name other)

abbrev pub flag_in : Said → Option Flag
flag_in (Sets flag) = Some flag
flag_in _ = None

abbrev pub hash_in : Said → Option Variant
hash_in (Hashes variant) = Some variant
hash_in _ = None

abbrev pub file_in : Said → Option (List ℕ)
file_in (NamedIn file) = Some file
file_in _ = None

abbrev pub name_in : Said → List (List ℕ)
name_in (Names name) = name ∷ []
name_in _ = []

-- the mode, by its option: `--tag` is binary mode, too
abbrev pub mode_in : Said → Option Flag
mode_in (Sets Binary) = Some Binary
mode_in (Sets Tag) = Some Binary
mode_in (Sets Text) = Some Text
mode_in _ = None

-- of `--quiet`, `--status` and `--warn` the last counts
abbrev pub telling_in : Said → Option Flag
telling_in (Sets Quiet) = Some Quiet
telling_in (Sets Status) = Some Status
telling_in (Sets Warn) = Some Warn
telling_in _ = None

-- ---- what some words say, of which the last comes first

abbrev pub gives : Flag → List Said → Bool
gives flag words = list_any (λ word. is flag (flag_in word)) words

abbrev pub last : {A : Type 0} → (Said → Option A) → List Said → Option A
last pick [] = None
last pick (word ∷ words) = option_or (pick word) (last pick words)

-- the names of files, in their order
abbrev pub names_of : List Said → List (List ℕ)
names_of [] = []
names_of (word ∷ words) = names_of words ++ name_in word
