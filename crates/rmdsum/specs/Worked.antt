-- Worked command lines. tests/test_rmdsum.py compares such lines with `sha256sum`.
use Rattle.std.specs.Prelude.{◌≡◌, ◌↔◌, ℕ, Bool, true, false, List, [], ◌∷◌, map, codes, Some, None, Ok, Err, vec_items, Vec}
use Rattle.std.specs.Global.{Global}
use Rattle.rmdsum.specs.Types.{Error, Binary, IgnoreMissing, Progress, Quiet, Status, Strict, Tag, Text, Warn, Zero, Algorithm, FilesFrom, Any, Operand, TextWithTag, ZeroWithCheck, TagWithCheck, ModeWithCheck, OnlyWithCheck, ExtraOperand, Run, Help, Version, NameSource, Operands, Work, Unread, Input, Empty}
use Rattle.ripemd_files.specs.declared.line.Variant.TheVariants.{R128, R160, R256, R320}
use Rattle.ripemd_files.specs.declared.line.Variant.{Variant}
use Rattle.ripemd_files.specs.declared.printing.Style.{Style}
use Rattle.ripemd_files.specs.declared.verdict.Options.{Options}
use Rattle.ripemd_files.specs.declared.line.Form.TheVariants as forms
use Rattle.ripemd_files.specs.declared.line.Ending.TheVariants as endings
use Rattle.rmdsum.specs.declared.switches.Flag.TheVariants.{Check}
use Rattle.rmdsum.specs.Options.{gives, last, names_of, file_in, mode_in}
use Rattle.rmdsum.specs.Options.Said.{Sets, Hashes, NamedIn, Names}
use Rattle.rmdsum.specs.Arguments.{reading, Answers}
use Rattle.rmdsum.specs.Arguments.Reading.{Goes, Stops}
use Rattle.rmdsum.specs.Arguments.Why.{AsksHelp, AsksVersion, UnknownLong, Ambiguous, UnwantedValue, MissingValue, UnknownShort, MissingShortValue, UnknownVariant}
use Rattle.rmdsum.specs.declared.request.Work.TheVariants as works
use Rattle.rmdsum.specs.Names.{Continues}
use Rattle.rmdsum.specs.Runs.{Deed, IsRun, DoesAsked, Performs}
use Rattle.rmdsum.specs.Runs.Deed.{Refuses, ShowsHelp, ShowsVersion, Opens, Gets, Prints, Checks, Says}
use Rattle.rmdsum.specs.Asked.{conflict, options_of, variant_of, form_of, ending_of, or_input, IsExtra}

-- what single arguments say
pub record WorkedArguments : Type 0 where
  pub none : reading false Any [] ≡ Goes [] Any
  pub operands : reading false Any (codes "a" ∷ codes "-" ∷ codes "" ∷ []) ≡ Goes (Names (codes "a") ∷ Names (codes "-") ∷ Names [] ∷ []) Any
  pub letters : reading false Any (codes "-bctwz" ∷ []) ≡ Goes (Sets Binary ∷ Sets Check ∷ Sets Text ∷ Sets Warn ∷ Sets Zero ∷ []) Any
  pub long_1 : reading false Any (codes "--binary" ∷ codes "--check" ∷ codes "--ignore-missing" ∷ codes "--progress" ∷ codes "--quiet" ∷ [])
      ≡ Goes (Sets Binary ∷ Sets Check ∷ Sets IgnoreMissing ∷ Sets Progress ∷ Sets Quiet ∷ []) Any
  pub long_2 : reading false Any (codes "--status" ∷ codes "--strict" ∷ codes "--tag" ∷ codes "--text" ∷ codes "--warn" ∷ codes "--zero" ∷ [])
      ≡ Goes (Sets Status ∷ Sets Strict ∷ Sets Tag ∷ Sets Text ∷ Sets Warn ∷ Sets Zero ∷ []) Any
  pub short : reading false Any (codes "--str" ∷ codes "--ta" ∷ codes "--a=128" ∷ []) ≡ Goes (Sets Strict ∷ Sets Tag ∷ Hashes R128 ∷ []) Any
  pub values : reading false Any (codes "-a" ∷ codes "160" ∷ codes "-a256" ∷ codes "-ca" ∷ codes "320" ∷ codes "--algorithm" ∷ codes "128" ∷ [])
      ≡ Goes (Hashes R160 ∷ Hashes R256 ∷ Sets Check ∷ Hashes R320 ∷ Hashes R128 ∷ []) Any
  pub files : reading false Any (codes "--files0-from=a=b" ∷ codes "--files0-from" ∷ codes "--" ∷ []) ≡ Goes (NamedIn (codes "a=b") ∷ NamedIn (codes "--") ∷ []) Any
  pub after : reading false Any (codes "a" ∷ codes "-c" ∷ codes "--" ∷ codes "-c" ∷ codes "--" ∷ [])
      ≡ Goes (Names (codes "a") ∷ Sets Check ∷ Names (codes "-c") ∷ Names (codes "--") ∷ []) Operand
  pub posix : reading true Any (codes "-c" ∷ codes "a" ∷ codes "-c" ∷ []) ≡ Goes (Sets Check ∷ Names (codes "a") ∷ Names (codes "-c") ∷ []) Operand
  pub last : reading true Any (codes "-" ∷ codes "--version" ∷ []) ≡ Goes (Names (codes "-") ∷ Names (codes "--version") ∷ []) Operand

-- why no more are read
pub record WorkedStops : Type 0 where
  pub help : reading false Any (codes "-c" ∷ codes "--help" ∷ codes "--nothing" ∷ []) ≡ Stops AsksHelp
  pub version : reading false Any (codes "a" ∷ codes "--version" ∷ []) ≡ Stops AsksVersion
  pub long : reading false Any (codes "--nothing=1" ∷ []) ≡ Stops (UnknownLong (codes "nothing=1"))
  pub empty : reading false Any (codes "--=" ∷ []) ≡ Stops (Ambiguous (codes "="))
  pub ambiguous : reading false Any (codes "--st" ∷ codes "--help" ∷ []) ≡ Stops (Ambiguous (codes "st"))
  pub unwanted : reading false Any (codes "--check=a" ∷ []) ≡ Stops (UnwantedValue Check)
  pub value_1 : reading false Any (codes "a" ∷ codes "--algorithm" ∷ []) ≡ Stops (MissingValue Algorithm)
  pub value_2 : reading false Any (codes "--files0-from" ∷ []) ≡ Stops (MissingValue FilesFrom)
  pub short_value : reading false Any (codes "-ca" ∷ []) ≡ Stops (MissingShortValue 97)
  pub short : reading false Any (codes "-cx" ∷ []) ≡ Stops (UnknownShort 120)
  pub hyphens : reading false Any (codes "---" ∷ []) ≡ Stops (UnknownLong (codes "-"))
  pub hyphen : reading false Any (codes "-b-" ∷ []) ≡ Stops (UnknownShort 45)
  pub variant : reading false Any (codes "-a" ∷ codes "1600" ∷ codes "--help" ∷ []) ≡ Stops (UnknownVariant (codes "1600"))

-- what words ask for, of which the last comes first
pub record WorkedWords : Type 0 where
  pub variant_1 : variant_of [] ≡ R160
  pub variant_2 : variant_of (Sets Check ∷ Hashes R128 ∷ Hashes R256 ∷ []) ≡ R128
  pub input : or_input (names_of (Sets Check ∷ [])) ≡ codes "-" ∷ []
  pub names : or_input (names_of (Names (codes "b") ∷ Sets Check ∷ Names (codes "a") ∷ [])) ≡ codes "a" ∷ codes "b" ∷ []
  pub file : last file_in (NamedIn (codes "b") ∷ Names (codes "c") ∷ NamedIn (codes "a") ∷ []) ≡ Some (codes "b")
  pub text : form_of false (last mode_in (Sets Check ∷ [])) ≡ forms.Text
  pub text_last : form_of false (last mode_in (Sets Text ∷ Sets Binary ∷ [])) ≡ forms.Text
  pub binary : form_of false (last mode_in (Sets Binary ∷ Sets Text ∷ [])) ≡ forms.Binary
  pub tagged : form_of true (last mode_in (Sets Binary ∷ Sets Tag ∷ [])) ≡ forms.Tagged
  pub newline : ending_of (gives Zero (Sets Tag ∷ [])) ≡ endings.Newline
  pub zero : ending_of (gives Zero (Sets Tag ∷ Sets Zero ∷ [])) ≡ endings.Zero
  pub quiet : options_of (Sets Quiet ∷ Sets Strict ∷ Sets Warn ∷ [])
      ≡ record { ignore_missing = false; quiet = true; status = false; strict = true; warn = false }
  pub status : options_of (Sets Status ∷ Sets IgnoreMissing ∷ Sets Quiet ∷ [])
      ≡ record { ignore_missing = true; quiet = false; status = true; strict = false; warn = false }
  pub warn : options_of (Sets Check ∷ Sets Warn ∷ Sets Status ∷ [])
      ≡ record { ignore_missing = false; quiet = false; status = false; strict = false; warn = true }
  pub usual : options_of [] ≡ record { ignore_missing = false; quiet = false; status = false; strict = false; warn = false }

-- options that exclude one another
pub record WorkedConflicts : Type 0 where
  pub print : conflict (Sets Tag ∷ Sets Text ∷ Sets Zero ∷ Sets Progress ∷ []) ≡ None
  pub check : conflict (Sets Check ∷ Sets IgnoreMissing ∷ Sets Strict ∷ Sets Warn ∷ []) ≡ None
  pub text : conflict (Sets Text ∷ Sets Tag ∷ Sets Check ∷ []) ≡ Some TextWithTag
  pub text_first : conflict (Sets Strict ∷ Sets Zero ∷ Sets Text ∷ Sets Tag ∷ []) ≡ Some TextWithTag
  pub zero : conflict (Sets Zero ∷ Sets Tag ∷ Sets Check ∷ []) ≡ Some ZeroWithCheck
  pub zero_first : conflict (Sets Text ∷ Sets Zero ∷ Sets Check ∷ []) ≡ Some ZeroWithCheck
  pub tag : conflict (Sets Check ∷ Sets Tag ∷ []) ≡ Some TagWithCheck
  pub binary : conflict (Sets Binary ∷ Sets Check ∷ []) ≡ Some ModeWithCheck
  pub mode : conflict (Sets Check ∷ Sets Text ∷ []) ≡ Some ModeWithCheck
  pub missing : conflict (Sets Warn ∷ Sets IgnoreMissing ∷ Sets Strict ∷ []) ≡ Some (OnlyWithCheck IgnoreMissing)
  pub status : conflict (Sets Strict ∷ Sets Status ∷ Sets Warn ∷ []) ≡ Some (OnlyWithCheck Status)
  pub warn : conflict (Sets Warn ∷ Sets Quiet ∷ []) ≡ Some (OnlyWithCheck Warn)
  pub quiet : conflict (Sets Quiet ∷ Sets Strict ∷ []) ≡ Some (OnlyWithCheck Quiet)
  pub strict : conflict (Sets Strict ∷ []) ≡ Some (OnlyWithCheck Strict)
  pub extra : (operand : Vec ℕ Global) → IsExtra (Some (codes "c")) (codes "a" ∷ codes "b" ∷ []) (ExtraOperand operand)
      ↔ (operand.items ≡ codes "a")

abbrev pub usual : Options
usual = record { ignore_missing = false; quiet = false; status = false; strict = false; warn = false }

-- what whole command lines ask for
pub record WorkedAnswers : Type 0 where
  pub tagged : (names : Vec (Vec ℕ Global) Global) → map vec_items names.items ≡ codes "a" ∷ []
      → Answers (reading false Any (codes "--text" ∷ codes "--tag" ∷ codes "a" ∷ []))
      (Ok (Run (works.Print (record { variant = R160; form = forms.Tagged; ending = endings.Newline })) (Operands names) false))
  pub check : (names : Vec (Vec ℕ Global) Global) → map vec_items names.items ≡ codes "-" ∷ []
      → Answers (reading false Any (codes "-c" ∷ codes "-a" ∷ codes "128" ∷ codes "--progress" ∷ []))
      (Ok (Run (works.Check (Some R128) usual) (Operands names) true))
  pub text : Answers (reading false Any (codes "--tag" ∷ codes "--text" ∷ [])) (Err TextWithTag)
  pub not_text : ¬ Answers (reading false Any (codes "--text" ∷ codes "--tag" ∷ [])) (Err TextWithTag)
  pub zero : Answers (reading false Any (codes "-cz" ∷ codes "--files0-from=b" ∷ codes "a" ∷ [])) (Err ZeroWithCheck)
  pub help : Answers (reading false Any (codes "--help" ∷ codes "--nothing" ∷ [])) (Ok Help)
  pub not_version : ¬ Answers (reading false Any (codes "--help" ∷ [])) (Ok Version)

-- ---- runs

abbrev pub plain : Variant → Style
plain variant = record { variant = variant; form = forms.Text; ending = endings.Newline }

abbrev pub checks : List ℕ → Bool → Deed
checks name answer = Checks (record { only = None; from_input = false }) usual name answer

-- a run over two lists, whose answers are these
abbrev pub two_lists : Bool → Bool → List Deed
two_lists one other = Gets (codes "a" ∷ codes "b" ∷ []) None ∷ checks (codes "a") one ∷ checks (codes "b") other ∷ Says None true ∷ Gets [] None ∷ []

-- runs, and what is none
pub record WorkedRuns : Type 0 where
  pub no_name : IsRun (works.Check None usual) (Gets [] None ∷ []) true
  pub succeeds : IsRun (works.Check None usual) (two_lists true true) true
  pub one_fails : IsRun (works.Check None usual) (two_lists false true) false
  pub has_failed : (success : Bool) → IsRun (works.Check None usual) (two_lists false true) success → success ≡ false
  pub fault : IsRun (works.Print (plain R160)) (Gets (codes "a" ∷ []) (Some Input) ∷ Prints (plain R160) (codes "a" ∷ []) true ∷ Says (Some Input) false
      ∷ Gets [] None ∷ []) false
  pub early : (success : Bool) → ¬ IsRun (works.Print (plain R160)) (Gets (codes "a" ∷ []) (Some Input) ∷ Says (Some Input) false
      ∷ Prints (plain R160) (codes "a" ∷ []) true ∷ Gets [] None ∷ []) success
  pub all_first : (success : Bool) → ¬ IsRun (works.Check None usual) (Gets (codes "a" ∷ []) None ∷ Gets (codes "b" ∷ []) None ∷ checks (codes "a") true
      ∷ checks (codes "b") true ∷ Gets [] None ∷ []) success
  pub on : (success : Bool) → ¬ IsRun (works.Check None usual) (Gets [] None ∷ Gets [] None ∷ []) success
  pub not_ended : (success : Bool) → ¬ IsRun (works.Check None usual) (Gets (codes "a" ∷ []) None ∷ checks (codes "a") true ∷ Says None true ∷ []) success
  pub nothing : (success : Bool) → ¬ IsRun (works.Check None usual) [] success
  pub skipped : (success : Bool) → ¬ IsRun (works.Check None usual) (Gets (codes "a" ∷ codes "b" ∷ []) None ∷ checks (codes "b") true ∷ Says None true
      ∷ Gets [] None ∷ []) success
  pub not_input : (success : Bool) → ¬ IsRun (works.Check None usual) (Gets (codes "-" ∷ []) None ∷ checks (codes "-") true ∷ Says None true ∷ Gets [] None ∷ [])
      success
  pub no_file : (success : Bool) → ¬ IsRun (works.Print (plain R160)) (Gets (codes "a" ∷ []) None ∷ Prints (plain R160) (codes "a" ∷ []) true
      ∷ Prints (plain R160) [] true ∷ Says None true ∷ Gets [] None ∷ []) success
  pub unsaid : (success : Bool) → ¬ IsRun (works.Check None usual) (Gets [] (Some Input) ∷ Says None true ∷ Gets [] None ∷ []) success
  pub not_told : (success : Bool) → ¬ IsRun (works.Print (plain R160)) (Gets [] (Some Input) ∷ Says (Some Input) true ∷ Gets [] None ∷ []) success
  pub other_style : (success : Bool) → ¬ IsRun (works.Print (plain R160)) (Gets (codes "a" ∷ []) None ∷ Prints (plain R128) (codes "a" ∷ []) true
      ∷ Gets [] None ∷ []) success

-- what is done for arguments and requests, and what is not
pub record WorkedDeeds : Type 0 where
  pub help : Performs Help (ShowsHelp ∷ []) true
  pub version : Performs Version (ShowsVersion ∷ []) true
  pub refused : DoesAsked (reading false Any (codes "-cz" ∷ [])) (Refuses ZeroWithCheck ∷ []) false
  pub other_reason : (success : Bool) → ¬ DoesAsked (reading false Any (codes "-cz" ∷ [])) (Refuses TagWithCheck ∷ []) success
  pub not_help : (success : Bool) → ¬ DoesAsked (reading false Any (codes "-cz" ∷ [])) (ShowsHelp ∷ []) success
  pub opened : (work : Work) (names : NameSource) → Performs (Run work names true) (Opens names true true ∷ Gets [] None ∷ []) true
  pub unopened : (work : Work) (names : NameSource) → Performs (Run work names false) (Opens names false false ∷ []) false
  pub no_success : (work : Work) (names : NameSource) → ¬ Performs (Run work names false) (Opens names false false ∷ []) true
  pub none_gotten : (work : Work) (names : NameSource) (success : Bool) → ¬ Performs (Run work names false) (Opens names false true ∷ []) success
  pub progress : (work : Work) (names : NameSource) (success : Bool) → ¬ Performs (Run work names true) (Opens names false true ∷ Gets [] None ∷ []) success

-- ---- names of a file

pub record WorkedNames : Type 0 where
  pub two : Continues [] 0 2 (Some (97 ∷ 0 ∷ 98 ∷ [])) (Some []) [] (codes "a" ∷ codes "b" ∷ []) None
  pub given : Continues [] 0 0 (Some []) (Some []) (codes "a" ∷ []) (codes "a" ∷ []) None
  pub empty : Continues [] 5 7 (Some (97 ∷ 0 ∷ 0 ∷ 98 ∷ [])) (Some (98 ∷ [])) [] (codes "a" ∷ []) (Some (Empty 7))
  pub input : Continues (codes "f") 0 1 (Some (codes "-")) (Some []) [] (codes "-" ∷ []) None
  pub is_input : Continues (codes "-") 0 1 (Some (45 ∷ 0 ∷ 98 ∷ [])) (Some (98 ∷ [])) [] [] (Some Input)
  pub unread : (error : Error) → Continues [] 0 1 (Some (97 ∷ 0 ∷ 98 ∷ [])) (Some []) [] (codes "a" ∷ []) (Some (Unread error))
  pub read_on : (count : ℕ) (error : Error) → ¬ Continues [] 0 count (Some (codes "a")) (Some (codes "a")) [] [] (Some (Unread error))
  pub unsplit : (count : ℕ) → ¬ Continues [] 0 count (Some (97 ∷ 0 ∷ [])) (Some []) [] ((97 ∷ 0 ∷ []) ∷ []) None
  pub not_ended : (count : ℕ) → ¬ Continues [] 0 count (Some (codes "a")) (Some (codes "a")) [] [] None
  pub dropped : (count : ℕ) → ¬ Continues [] 0 count (Some (codes "a")) (Some []) [] [] None
  pub not_input : (count : ℕ) → ¬ Continues (codes "f") 0 count (Some (codes "-")) (Some []) [] [] (Some Input)
  pub its_input : (count : ℕ) → ¬ Continues (codes "-") 0 count (Some (codes "-")) (Some []) [] (codes "-" ∷ []) None
  pub nameless : (count : ℕ) → ¬ Continues [] 0 count (Some (0 ∷ [])) (Some []) [] ([] ∷ []) None
  pub other_number : (count : ℕ) → ¬ Continues [] 5 count (Some (0 ∷ [])) (Some []) [] [] (Some (Empty 5))
  pub uncounted : ¬ Continues [] 0 0 (Some (codes "a")) (Some []) [] (codes "a" ∷ []) None
