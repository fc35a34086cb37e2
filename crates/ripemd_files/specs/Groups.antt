-- How the code reads a list: some lines at once.
use Rattle.std.specs.Prelude.{◌≡◌, ◌+◌, ◌<◌, ◌≤◌, ◌^◌, ℕ, List, [], ◌∷◌, ◌++◌, length, map, flat_map, Option, Some, None, ⊤}
use Rattle.std.specs.List.{AllZip}
use Rattle.std.specs.Io.KnownBytes.{Consumes}
use Rattle.ripemd_files.specs.Types.{Line, Layout, Rules, Cursor, Group, Stage, Among, Ended, Failed, Variant, Options, Tally, Fault, Write, NoMemory, TooManyLines}
use Rattle.ripemd_files.specs.Splitting.{lines_of, IsEnded, IsOneLine, IsWhole, ListState}
use Rattle.ripemd_files.specs.Files.{Place}
use Rattle.ripemd_files.specs.Said.{Tells, TellsEach, TellsFirst, Told}
use Rattle.ripemd_files.specs.Checking.{Counts, Event, IsEventOf, IsTally, items_of_event, misformatted}
use Rattle.ripemd_files.specs.Lists.{Entry, IsTaken, Reports, entries_of, entry_of, layout_after, layout_behind}

-- what a line says, by the layout of its list, if that counts
abbrev pub IsEntry : Rules → Option Layout → List ℕ → Option Line → Type 0
IsEntry rules layout text None = (variant : Variant) (digest name : List ℕ) → ¬ IsTaken rules layout text variant digest name
IsEntry rules layout text (Some line) = IsTaken rules layout text line.variant line.digest.items line.name.items

-- what an entry means: a line that names a file; or, by its number, nothing that counts
pub data Meaning : Type 0 where
  names : Line → Meaning
  nothing : ℕ → Meaning

abbrev pub Means : Rules → Entry → Meaning → Type 0
Means rules entry (names line) = IsEntry rules entry.layout entry.text (Some line)
Means rules entry (nothing number) = (number ≡ entry.number) × IsEntry rules entry.layout entry.text None

-- some lines, and the number of one after them that means nothing
abbrev pub meanings : List Line → Option ℕ → List Meaning
meanings lines None = map names lines
meanings lines (Some number) = map names lines ++ nothing number ∷ []

-- the event of a line that means nothing
abbrev pub misformatted_events : Option ℕ → List Event
misformatted_events None = []
misformatted_events (Some number) = misformatted number ∷ []

-- a line was taken from a list, and what it means stands behind what earlier lines mean
pub record Takes (rules : Rules) (before after : Cursor) (text : List ℕ) (old new : List Line) (bad : Option ℕ) : Type 0 where
  pub found : List Meaning
  pub means : AllZip (Means rules) (entry_of rules before.layout before.number text) found
  pub grown : meanings new bad ≡ meanings old None ++ found
  pub layout : after.layout ≡ layout_after rules before.layout text

-- all lines of these bytes were taken from the list, and mean this
pub record ReadsLines (rules : Rules) (old new : Option (List ℕ)) (before after : Cursor) (lines : List Line) (bad : Option ℕ) (rest : List ℕ)
    : Type 0 where
  pub bytes : List ℕ
  pub consumed : Consumes old new (bytes ++ rest)
  pub numbered : after.number ≡ before.number + length (lines_of bytes)
  pub layout : after.layout ≡ layout_behind rules before.layout (lines_of bytes)
  pub means : AllZip (Means rules) (entries_of rules before.layout before.number (lines_of bytes)) (meanings lines bad)

-- what was read ends in whole lines, at the end of the list, or in the middle of a line, by a read that failed
abbrev pub EndsAs : Stage → (old new : Option (List ℕ)) → (bytes rest : List ℕ) → Type 0
EndsAs Among old new bytes rest = IsWhole bytes × (rest ≡ [])
EndsAs Ended old new bytes rest = (rest ≡ []) × IsEnded old new
EndsAs Failed old new bytes rest = IsWhole bytes × IsOneLine rest

-- a group of lines was read from the list
pub record ReadsGroup (rules : Rules) (old : Option (List ℕ)) (new : ListState) (before after : Cursor) (group : Group) : Type 0 where
  pub rest : List ℕ
  pub reads : ReadsLines rules old new.left before after group.lines.items group.misformatted rest
  pub ended : EndsAs group.stage old new.left reads.bytes rest
  pub stage : new.stage ≡ group.stage
  pub advanced : group.stage ≡ Among → before.number < after.number
  pub bounded : group.stage ≡ Among → after.number < 2 ^ 64

-- the list has a line after the last that can be counted
abbrev pub ExplainsReading : (number : ℕ) (bytes : List ℕ) → Fault → Type 0
ExplainsReading number bytes (Write error) = ⊥
ExplainsReading number bytes NoMemory = ⊤
ExplainsReading number bytes TooManyLines = 2 ^ 64 ≤ number + length (lines_of bytes)

-- reading the list from a line of this number on ended before its end
pub record StopsReading (old new : Option (List ℕ)) (number : ℕ) (fault : Fault) : Type 0 where
  pub bytes : List ℕ
  pub consumed : Consumes old new bytes
  pub why : ExplainsReading number bytes fault

-- what was found of some lines was told and counted
abbrev pub ChecksLines : {File : Type 0} → Place File → Options → List Line → (old new : Told) → (before after : Tally) → Type 0
ChecksLines place options = TellsEach (IsEventOf place options.ignore_missing) (items_of_event options) Counts

-- or of the first of them, and then the run ended
abbrev pub ChecksFirst : {File : Type 0} → Place File → Options → List Line → (old new : Told) → Fault → Type 0
ChecksFirst place options = TellsFirst (IsEventOf place options.ignore_missing) (items_of_event options)

-- what comes of all lines of a list so far was told and counted
pub record ChecksSoFar {File : Type 0} (place : Place File) (options : Options) (rules : Rules) (first now : Cursor)
    (old new : Option (List ℕ)) (before after : Told) (tally : Tally) : Type 0 where
  pub bytes : List ℕ
  pub events : List Event
  pub consumed : Consumes old new bytes
  pub whole : IsWhole bytes
  pub numbered : now.number ≡ first.number + length (lines_of bytes)
  pub counts : IsTally events tally
  pub tells : Tells before after (flat_map (items_of_event options) events)
  pub layout : now.layout ≡ layout_behind rules first.layout (lines_of bytes)
  pub reports : Reports place options.ignore_missing rules first.layout first.number (lines_of bytes) events
