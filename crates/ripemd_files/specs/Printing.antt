-- What is printed of files: for each a line with its digest and its name, and an error for each that can't be read.
use Rattle.std.specs.Prelude.{◌≡◌, ◌≢◌, ◌==◌, ℕ, List, [], ◌∷◌, ◌++◌, codes, Option, unwrap_or, Bool, true, false, ◌&&◌, IsTrue}
use Rattle.std.specs.List.{list_all, list_any}
use Rattle.ripemd.specs.Collisions.{IsCollision}
use Rattle.ripemd.specs.Standard.{compress, ripemd128, ripemd160, ripemd256, ripemd320, ripemd}
use Rattle.ripemd_files.specs.Types.{VariantCollision, Form, Layout, Standard, Newline, Variant, R128, R160, R256, R320, Rules, Style, Outcome, Digest, Refused, Broken, Fault}
use Rattle.ripemd_files.specs.declared.agreement.VariantCollision.TheVariants as collisions
use Rattle.ripemd_files.specs.Lines.{IsReadable, line_of, end_of}
use Rattle.ripemd_files.specs.Lists.{IsWanted}
use Rattle.ripemd_files.specs.Files.{Place, ComesTo, parameters_of}
use Rattle.ripemd_files.specs.Said.{Item, TellsEach, TellsFirst, Told, unreadable, written}

-- a file by its name, and what came of reading it
pub record Reading : Type 0 where
  pub name : List ℕ
  pub outcome : Outcome

-- its line
abbrev pub line_for : Style → List ℕ → Outcome → List ℕ
line_for style name (Digest digest) = line_of style.ending style.form style.variant digest.items name ++ end_of style.ending
line_for style name (Refused error) = []
line_for style name (Broken error) = []

-- its error
abbrev pub remarks_on : List ℕ → Outcome → List Item
remarks_on name (Digest digest) = []
remarks_on name (Refused error) = unreadable name error ∷ []
remarks_on name (Broken error) = unreadable name error ∷ []

abbrev pub was_read : Outcome → Bool
was_read (Digest digest) = true
was_read (Refused error) = false
was_read (Broken error) = false

-- what is told of it
abbrev pub items_on : Style → List ℕ → Outcome → List Item
items_on style name outcome = remarks_on name outcome ++ written (line_for style name outcome)

-- the file of a name was read
abbrev pub IsReading : {File : Type 0} → Place File → Style → List ℕ → Reading → Type 0
IsReading place style name reading = (reading.name ≡ name) × ComesTo place (ripemd (parameters_of style.variant)) name reading.outcome

abbrev pub items_of_reading : Style → Reading → List Item
items_of_reading style reading = items_on style reading.name reading.outcome

-- all were read before, and these too
abbrev pub AllRead : Bool → List Reading → Bool → Type 0
AllRead before readings after = after ≡ before && list_all (λ (reading : Reading). was_read reading.outcome) readings

-- the files of these names were read in order, and told of, each by its line or its error; and whether all were read
abbrev pub PrintsAll : {File : Type 0} → Place File → Style → (names : List (List ℕ)) → (old new : Told) → (all : Bool) → Type 0
PrintsAll place style names old new all = TellsEach (IsReading place style) (items_of_reading style) AllRead names old new true all

-- or the first of them, and then the run ended
abbrev pub PrintsFirst : {File : Type 0} → Place File → Style → (names : List (List ℕ)) → (old new : Told) → Fault → Type 0
PrintsFirst place style = TellsFirst (IsReading place style) (items_of_reading style)

-- ---- lines that were printed, and are checked

-- the line of a message and a name, without its newline
abbrev pub printed_line : Form → Variant → List ℕ → List ℕ → List ℕ
printed_line form variant message name = line_of Newline form variant (ripemd (parameters_of variant) message) name

-- the line can be read in a list of this layout, and its variant and its name count there
pub record IsPrinted (rules : Rules) (layout : Option Layout) (form : Form) (variant : Variant) (name : List ℕ) : Type 0 where
  pub readable : IsReadable (unwrap_or layout Standard) form name
  pub no_zero : list_any (λ byte. byte == 0) name ≡ false
  pub wanted : IsWanted rules.only variant
  pub other : IsTrue rules.from_input → name ≢ codes "-"

-- a collision of two messages, by the block function of this variant
abbrev pub IsCollisionOf : Variant → List ℕ → List ℕ → VariantCollision → Type 0
IsCollisionOf variant a b (collisions.R128 c) = (variant ≡ R128) × IsCollision ripemd128.start (compress ripemd128) a b c
IsCollisionOf variant a b (collisions.R160 c) = (variant ≡ R160) × IsCollision ripemd160.start (compress ripemd160) a b c
IsCollisionOf variant a b (collisions.R256 c) = (variant ≡ R256) × IsCollision ripemd256.start (compress ripemd256) a b c
IsCollisionOf variant a b (collisions.R320 c) = (variant ≡ R320) × IsCollision ripemd320.start (compress ripemd320) a b c
