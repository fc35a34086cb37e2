-- What a check of a list says: what comes of each of its lines, and how it ends.
use Rattle.std.specs.Prelude.{◌≡◌, ◌≢◌, ◌⊎◌, ◌+◌, ◌-◌, ◌^◌, ◌≤◌, ℕ, List, [], ◌∷◌, ◌++◌, codes, flat_map, length, Option, Some, None, unwrap_or, Bool, true, false, ◌||◌, ◌==◌, if◌then◌else◌, IsTrue, ⊤}
use Rattle.std.specs.List.{AllZip, fold}
use Rattle.std.specs.Io.BufRead.{strip_last}
use Rattle.std.specs.Io.KnownBytes.{Consumes}
use Rattle.ripemd.specs.Standard.{ripemd}
use Rattle.ripemd_files.specs.Types.{Variant, Layout, Standard, Rules, Outcome, Stage, Among, Ended, Failed, Options, Tally, Fault}
use Rattle.ripemd_files.specs.declared.log.Complaint.TheVariants as complaints
use Rattle.ripemd_files.specs.Lines.{IsLine}
use Rattle.std.specs.Option.{option_or}
use Rattle.ripemd_files.specs.Reading.{layout_of}
use Rattle.ripemd_files.specs.Splitting.{lines_of, IsEnded, IsOneLine, IsWhole, ListState}
use Rattle.ripemd_files.specs.Files.{Place, ComesTo, parameters_of}
use Rattle.ripemd_files.specs.Said.{Item, Stops, Tells, Told, about_list}
use Rattle.ripemd_files.specs.Checking.{Event, IsTally, checked, closing_remarks, is_success, items_of_event, misformatted, verdict_of}

-- ---- lines

-- a line without a carriage return at its end
abbrev pub body_of_line : List ℕ → List ℕ
body_of_line text = strip_last 13 text

abbrev pub begins_comment : List ℕ → Bool
begins_comment [] = false
begins_comment (byte ∷ rest) = byte == 35

abbrev pub is_empty : List ℕ → Bool
is_empty [] = true
is_empty (byte ∷ rest) = false

-- empty lines are passed over, and those that begin with `#`
abbrev pub is_passed_over : List ℕ → Bool
is_passed_over text = begins_comment text || is_empty (body_of_line text)

-- the layout of a list is that of its first untagged line
abbrev pub layout_after : Rules → Option Layout → List ℕ → Option Layout
layout_after rules layout text =
    if is_passed_over text then layout else option_or layout (layout_of rules.only (body_of_line text))

-- a variant counts where all do, or if it is the one that does
abbrev pub IsWanted : Option Variant → Variant → Type 0
IsWanted None variant = ⊤
IsWanted (Some one) variant = variant ≡ one

-- what a line says counts; in a list on standard input no line can name this input
pub record IsTaken (rules : Rules) (layout : Option Layout) (text : List ℕ) (variant : Variant) (digest name : List ℕ) : Type 0 where
  pub is_line : IsLine (unwrap_or layout Standard) (body_of_line text) variant digest name
  pub wanted : IsWanted rules.only variant
  pub other : IsTrue rules.from_input → name ≢ codes "-"

-- ---- entries

-- a line that is not passed over: the layout of its list there, its number, and its text
pub record Entry : Type 0 where
  pub layout : Option Layout
  pub number : ℕ
  pub text : List ℕ

-- the entry of the line of a number, if it is one
abbrev pub entry_of : Rules → Option Layout → ℕ → List ℕ → List Entry
entry_of rules layout number text =
    if is_passed_over text then [] else record { layout = layout_after rules layout text; number = number; text = text } ∷ []

-- the entries among the lines from one of this number on
abbrev pub entries_of : Rules → Option Layout → ℕ → List (List ℕ) → List Entry
entries_of rules layout number [] = []
entries_of rules layout number (text ∷ rest) =
    entry_of rules layout number text ++ entries_of rules (layout_after rules layout text) (number + 1) rest

-- the layout of a list after some lines
abbrev pub layout_behind : Rules → Option Layout → List (List ℕ) → Option Layout
layout_behind rules layout lines = fold (layout_after rules) layout lines

-- ---- events

-- what comes of the line of a number: its file is read, and has a verdict; or it says nothing that counts
abbrev pub IsEventOn : {File : Type 0} → Place File → Bool → Rules → Option Layout → ℕ → List ℕ → Event → Type 0
IsEventOn place ignore_missing rules layout number text (misformatted n) =
    (n ≡ number) × ((variant : Variant) (digest name : List ℕ) → ¬ IsTaken rules layout text variant digest name)
IsEventOn place ignore_missing rules layout number text (checked name verdict) =
    (variant : Variant) × (digest : List ℕ) × (outcome : Outcome) × IsTaken rules layout text variant digest name
    × ComesTo place (ripemd (parameters_of variant)) name outcome × (verdict ≡ verdict_of ignore_missing digest outcome)

-- one event comes of each entry among the lines from one of this number on
abbrev pub Reports : {File : Type 0} → Place File → Bool → Rules → Option Layout → ℕ → List (List ℕ) → List Event → Type 0
Reports place ignore_missing rules layout number lines events =
    AllZip (λ entry event. IsEventOn place ignore_missing rules entry.layout entry.number entry.text event) (entries_of rules layout number lines) events

-- ---- checks

-- What was read has these lines and others after them, and then what is no whole line. To the end all was read; where a read
-- failed, nothing stands after these lines but the front of one.
abbrev pub Reaches : Stage → (old new : Option (List ℕ)) → (behind : List (List ℕ)) → (rest : List ℕ) → Type 0
Reaches Among old new behind rest = ⊤
Reaches Ended old new behind rest = (behind ≡ []) × (rest ≡ []) × IsEnded old new
Reaches Failed old new behind rest = (behind ≡ []) × IsOneLine rest

-- these lines were read from a list
pub record WasRead (stage : Stage) (old new : Option (List ℕ)) (lines : List (List ℕ)) : Type 0 where
  pub bytes : List ℕ
  pub rest : List ℕ
  pub behind : List (List ℕ)
  pub consumed : Consumes old new (bytes ++ rest)
  pub cut : IsWhole bytes ⊎ ((rest ≡ []) × IsEnded old new)
  pub split : lines_of bytes ≡ lines ++ behind
  pub reached : Reaches stage old new behind rest

-- what is remarked at the end
abbrev pub last_remarks : Stage → Options → Tally → List Item
last_remarks Among options tally = []
last_remarks Ended options tally = closing_remarks options tally
last_remarks Failed options tally = about_list complaints.Unreadable ∷ []

-- these lines were read and checked, and this is told of them: what came of each, and then what was counted
pub record IsReport {File : Type 0} (place : Place File) (options : Options) (rules : Rules) (first : Option Layout)
    (old new : Option (List ℕ)) (stage : Stage) (items : List Item) (tally : Tally) : Type 0 where
  pub lines : List (List ℕ)
  pub events : List Event
  pub read : WasRead stage old new lines
  pub reports : Reports place options.ignore_missing rules first 1 lines events
  pub counts : IsTally events tally
  pub said : items ≡ flat_map (items_of_event options) events ++ last_remarks stage options tally

-- a check succeeds if all of the list was read, and its counts say so
abbrev pub succeeds : Stage → Options → Tally → Bool
succeeds Among options tally = false
succeeds Ended options tally = is_success options tally
succeeds Failed options tally = false

-- a list was checked, to its end or to a read of it that failed
pub record ChecksList {File : Type 0} (place : Place File) (options : Options) (rules : Rules) (first last : Option Layout)
    (old : Option (List ℕ)) (new : ListState) (before after : Told) (success : Bool) : Type 0 where
  pub items : List Item
  pub tally : Tally
  pub report : IsReport place options rules first old new.left new.stage items tally
  pub layout : last ≡ layout_behind rules first report.lines
  pub is_over : new.stage ≢ Among
  pub tells : Tells before after items
  pub answer : success ≡ succeeds new.stage options tally

-- or the run ended before, when the first part of a report was told
pub record StopsList {File : Type 0} (place : Place File) (options : Options) (rules : Rules) (first : Option Layout)
    (old new : Option (List ℕ)) (before after : Told) (fault : Fault) : Type 0 where
  pub stage : Stage
  pub items : List Item
  pub tally : Tally
  pub report : IsReport place options rules first old new stage items tally
  pub stops : Stops (2 ^ 64 - 1 ≤ length (lines_of (report.read.bytes ++ report.read.rest))) before after items fault
