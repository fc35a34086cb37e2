-- What a run of the program does.
use Rattle.std.specs.Prelude.{◌≡◌, ◌≢◌, ◌⊎◌, ◌↔◌, ◌&&◌, ℕ, Bool, true, false, List, [], ◌∷◌, ◌++◌, codes, map, Option, option_to_list, is_none, Result, MatchResult}
use Rattle.ripemd_files.specs.declared.line.Variant.{Variant}
use Rattle.ripemd_files.specs.declared.list.Rules.{Rules}
use Rattle.ripemd_files.specs.declared.printing.Style.{Style}
use Rattle.ripemd_files.specs.declared.verdict.Options.{Options}
use Rattle.ripemd_files.specs.Said.{Adds}
use Rattle.rmdsum.specs.Types.{Wrong, Misuse, NameSource, Request, Help, Version, Run, Work, Print, Check}
use Rattle.rmdsum.specs.Arguments.{Reading, Answers}

-- what a run does: it refuses its arguments, prints the help or the version, or opens what has the names; it gets names, and what is
-- wrong after them; it prints files, checks a list, or says what is wrong; with the answers of these
pub data Deed : Type 0 where
  Refuses : Misuse → Deed
  ShowsHelp : Deed
  ShowsVersion : Deed
  Opens : NameSource → Bool → Bool → Deed
  Gets : List (List ℕ) → Option Wrong → Deed
  Prints : Style → List (List ℕ) → Bool → Deed
  Checks : Rules → Options → List ℕ → Bool → Deed
  Says : Option Wrong → Bool → Deed

-- known deeds grow by some that are such
abbrev pub Extends : Option (List Deed) → Option (List Deed) → (List Deed → Type 0) → Type 0
Extends old new P = (deeds : List Deed) × Adds old new deeds × P deeds

-- ---- deeds

-- what a run has to handle: a name, or what is wrong after some
pub data Item : Type 0 where
  Name : List ℕ → Item
  Fault : Wrong → Item

abbrev pub items : List (List ℕ) → Option Wrong → List Item
items names wrong = map Name names ++ map Fault (option_to_list wrong)

-- what a deed handles
abbrev pub handled : Deed → List Item
handled (Prints style names answer) = map Name names
handled (Checks rules options name answer) = Name name ∷ []
handled (Says wrong answer) = map Fault (option_to_list wrong)
handled _ = []

-- whether it succeeds
abbrev pub succeeded : Deed → Bool
succeeded (Prints style names answer) = answer
succeeded (Checks rules options name answer) = answer
succeeded (Says wrong answer) = answer
succeeded _ = true

-- the rules for lines of a list of this name: that on standard input is `-`
abbrev pub AreRules : Option Variant → List ℕ → Rules → Type 0
AreRules only name rules = (rules.only ≡ only) × ((rules.from_input ≡ true) ↔ (name ≡ codes "-"))

-- files, one at least, are printed and lists are checked as the work has it, and what is wrong is told
abbrev pub IsOf : Work → Deed → Type 0
IsOf work (Says wrong answer) = answer ≡ is_none wrong
IsOf (Print style) (Prints same names answer) = (same ≡ style) × (names ≢ [])
IsOf (Check only options) (Checks rules same name answer) = AreRules only name rules × (same ≡ options)
IsOf work _ = ⊥

-- A run that still has these items to handle: it handles them in order, before it gets more, and ends when it gets none. It
-- succeeds if each deed does.
abbrev pub Goes : Work → List Item → List Deed → Bool → Type 0
Goes work waiting [] success = ⊥
Goes work waiting (Gets names wrong ∷ deeds) success = (waiting ≡ [])
    × (((items names wrong ≡ []) × (deeds ≡ []) × (success ≡ true)) ⊎ ((items names wrong ≢ []) × Goes work (items names wrong) deeds success))
Goes work waiting (deed ∷ deeds) success = (later : List Item) × (others : Bool) × IsOf work deed × (waiting ≡ handled deed ++ later)
    × (success ≡ (succeeded deed && others)) × Goes work later deeds others

-- a whole run: it begins with nothing to handle
abbrev pub IsRun : Work → List Deed → Bool → Type 0
IsRun work deeds success = Goes work [] deeds success

-- these deeds handle these items, however the run goes on
abbrev pub Handles : Work → List Item → List Deed → Bool → Type 0
Handles work items deeds success = (later : List Item) (more : List Deed) (others : Bool) → Goes work later more others
    → Goes work (items ++ later) (deeds ++ more) (success && others)

-- ---- what is asked for

-- a request is performed: the run opens what has the names, and goes over them if that could be opened
abbrev pub Performs : Request → List Deed → Bool → Type 0
Performs Help deeds success = (deeds ≡ ShowsHelp ∷ []) × (success ≡ true)
Performs Version deeds success = (deeds ≡ ShowsVersion ∷ []) × (success ≡ true)
Performs (Run work names progress) deeds success = ((deeds ≡ Opens names progress false ∷ []) × (success ≡ false))
    ⊎ ((more : List Deed) × (deeds ≡ Opens names progress true ∷ more) × IsRun work more success)

-- arguments that read so are refused, or what they ask for is performed
abbrev pub DoesAsked : Reading → List Deed → Bool → Type 0
DoesAsked given deeds success = (answer : Result Request Misuse) × Answers given answer × MatchResult answer
    (λ request. Performs request deeds success) (λ misuse. (deeds ≡ Refuses misuse ∷ []) × (success ≡ false))
