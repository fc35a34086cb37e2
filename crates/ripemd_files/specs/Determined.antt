-- What is right where all is known of a folder.
use Rattle.std.specs.Prelude.{◌≡◌, ℕ, ◌^◌, ◌<◌, List, length, Option, Some, Result, Ok, Err, Bool}
use Rattle.ripemd_files.specs.Types.{Error, Layout, Rules, Style, Options}
use Rattle.ripemd_files.specs.Lists.{ChecksList}
use Rattle.ripemd_files.specs.Printing.{PrintsAll}
use Rattle.ripemd_files.specs.Files.{Place}
use Rattle.ripemd_files.specs.Said.{Item, Told}
use Rattle.ripemd_files.specs.Splitting.{ListState}

-- Each name gives this: the bytes of its file, or the error of opening it. No read fails, and no file is too long.
pub record IsKnown {File : Type 0} (place : Place File) (contents : List ℕ → Result (List ℕ) Error) : Type 0 where
  pub opened : (name : List ℕ) (file : File) → place.opens name file
      → (bytes : List ℕ) × (contents name ≡ Ok bytes) × (place.left file ≡ Some bytes) × (length bytes < 2 ^ 61)
  pub refused : (name : List ℕ) (error : Error) → place.refuses name error → contents name ≡ Err error
  pub sound : (file : File) (error : Error) → ¬ place.may_fail file error

-- a list of these bytes before a check, and what was told before
pub record Start : Type 0 where
  pub list : List ℕ
  pub items : List Item
  pub failure : Option Error

abbrev pub told_before : Start → Told
told_before start = record { items = Some start.items; failure = start.failure }

-- a report on the list: how a check of it may end
pub record Report {File : Type 0} (place : Place File) (options : Options) (rules : Rules) (first : Option Layout) (start : Start) : Type 0 where
  pub left : ListState
  pub last : Option Layout
  pub told : Told
  pub success : Bool
  pub checks : ChecksList place options rules first last (Some start.list) left (told_before start) told success

-- a print of files of these names: what may be printed of them
pub record Print {File : Type 0} (place : Place File) (style : Style) (names : List (List ℕ)) (start : Told) : Type 0 where
  pub told : Told
  pub all : Bool
  pub prints : PrintsAll place style names start told all
