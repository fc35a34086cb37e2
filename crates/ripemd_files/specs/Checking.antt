-- What a check says of the files that a list names, and how it ends.
use Rattle.std.specs.Prelude.{◌≡◌, ◌-◌, ◌^◌, ℕ, List, [], ◌∷◌, ◌++◌, codes, Bool, true, false, ◌&&◌, ◌||◌, ◌==◌, not, if◌then◌else◌, count_by, min}
use Rattle.std.specs.List.{list_any}
use Rattle.std.specs.Str.{bytes_eq}
use Rattle.std.specs.IoError.{error_kind}
use Rattle.ripemd_files.specs.Types.{Error, Line, Variant, Outcome, Digest, Refused, Broken, Complaint, Verdict, Matches, Differs, Missing, Unreadable, Options, Tally}
use Rattle.std.specs.declared.io.ErrorKind.{ErrorKind}
use Rattle.std.specs.declared.io.ErrorKind.TheVariants.{NotFound}
use Rattle.ripemd.specs.Standard.{ripemd}
use Rattle.ripemd_files.specs.declared.log.Complaint.TheVariants as complaints
use Rattle.ripemd_files.specs.Lines.{mark_of, text_of}
use Rattle.ripemd_files.specs.Files.{Place, ComesTo, parameters_of}
use Rattle.ripemd_files.specs.Said.{Item, about_list, unreadable, written}

-- ---- verdicts

abbrev pub is_not_found : ErrorKind → Bool
is_not_found NotFound = true
is_not_found _ = false

-- an error says that there is no file of this name
abbrev pub is_missing : Error → Bool
is_missing error = is_not_found (error_kind error)

abbrev pub verdict_of_digest : List ℕ → List ℕ → Verdict
verdict_of_digest digest wanted = if bytes_eq digest wanted then Matches else Differs

-- a file is as its line says if all of it was read and its digest is the line's; a missing one may be left out
abbrev pub verdict_of : Bool → List ℕ → Outcome → Verdict
verdict_of ignore_missing wanted (Digest digest) = verdict_of_digest digest.items wanted
verdict_of ignore_missing wanted (Refused error) = if ignore_missing && is_missing error then Missing else Unreadable error
verdict_of ignore_missing wanted (Broken error) = Unreadable error

-- ---- what is written

-- what came of a line of a list: that of this number says nothing that can be read, or the file that one names has this verdict
pub data Event : Type 0 where
  misformatted : ℕ → Event
  checked : List ℕ → Verdict → Event

-- a name of several lines, by bytes 10, is escaped and marked, so that it stands in one; any other stands as it is
abbrev pub has_lines : List ℕ → Bool
has_lines name = list_any (λ byte. byte == 10) name

abbrev pub shown : List ℕ → List ℕ
shown name = mark_of (has_lines name) ++ text_of (has_lines name) name

abbrev pub report_of : Bool → List ℕ → Verdict → List ℕ
report_of quiet name Matches = if quiet then [] else shown name ++ codes ": OK\n"
report_of quiet name Differs = shown name ++ codes ": FAILED\n"
report_of quiet name (Unreadable error) = shown name ++ codes ": FAILED open or read\n"
report_of quiet name Missing = []

-- the line that is written for an event, if it has one
abbrev pub line_of_event : Options → Event → List ℕ
line_of_event options (misformatted number) = []
line_of_event options (checked name verdict) = if options.status then [] else report_of options.quiet name verdict

abbrev pub remarks_on_verdict : List ℕ → Verdict → List Item
remarks_on_verdict name (Unreadable error) = unreadable name error ∷ []
remarks_on_verdict name Matches = []
remarks_on_verdict name Differs = []
remarks_on_verdict name Missing = []

-- what is remarked on it
abbrev pub remarks_on_event : Options → Event → List Item
remarks_on_event options (misformatted number) = if options.warn then about_list (complaints.Misformatted number) ∷ [] else []
remarks_on_event options (checked name verdict) = remarks_on_verdict name verdict

-- what is told of it: the remark, and then the line
abbrev pub items_of_event : Options → Event → List Item
items_of_event options event = remarks_on_event options event ++ written (line_of_event options event)

-- ---- how a check ends

abbrev pub has_verdict : (Verdict → Bool) → Event → Bool
has_verdict test (misformatted number) = false
has_verdict test (checked name verdict) = test verdict

abbrev pub is_misformatted : Event → Bool
is_misformatted (misformatted number) = true
is_misformatted (checked name verdict) = false

abbrev pub is_match : Verdict → Bool
is_match Matches = true
is_match _ = false

abbrev pub is_difference : Verdict → Bool
is_difference Differs = true
is_difference _ = false

abbrev pub is_unreadable : Verdict → Bool
is_unreadable (Unreadable error) = true
is_unreadable _ = false

-- counts stop at 2^64 - 1
abbrev pub counted : (Event → Bool) → List Event → ℕ
counted test events = min (count_by test events) (2 ^ 64 - 1)

-- the counts of some events
pub record IsTally (events : List Event) (tally : Tally) : Type 0 where
  pub misformatted : tally.misformatted ≡ counted is_misformatted events
  pub differing : tally.differing ≡ counted (has_verdict is_difference) events
  pub unreadable : tally.unreadable ≡ counted (has_verdict is_unreadable) events
  pub matched : tally.matched ≡ list_any (has_verdict is_match) events
  pub checked : tally.checked ≡ list_any (has_verdict (λ verdict. true)) events

abbrev pub remark_where : Bool → Complaint → List Item
remark_where wrong complaint = if wrong then about_list complaint ∷ [] else []

-- what is remarked of the counts that are not 0, and where no file was verified
abbrev pub count_remarks : Options → Tally → List Item
count_remarks options tally =
    remark_where (not (tally.misformatted == 0)) (complaints.MisformattedLines tally.misformatted)
    ++ (remark_where (not (tally.unreadable == 0)) (complaints.UnreadableFiles tally.unreadable)
    ++ (remark_where (not (tally.differing == 0)) (complaints.Mismatches tally.differing)
    ++ remark_where (options.ignore_missing && not tally.matched) complaints.NothingVerified))

-- what is remarked at the end of a list
abbrev pub closing_remarks : Options → Tally → List Item
closing_remarks options tally =
    if not tally.checked then about_list complaints.NoLines ∷ []
    else if options.status then []
    else count_remarks options tally

-- whether the check succeeds
abbrev pub is_success : Options → Tally → Bool
is_success options tally =
    tally.checked && ((tally.differing == 0) && ((tally.unreadable == 0)
    && ((not options.ignore_missing || tally.matched) && (not options.strict || (tally.misformatted == 0)))))

-- ---- events

-- reading the file that a line names comes to this
abbrev pub IsOutcomeOf : {File : Type 0} → Place File → Line → Outcome → Type 0
IsOutcomeOf place line outcome = ComesTo place (ripemd (parameters_of line.variant)) line.name.items outcome

-- a line has this hash and this name
abbrev pub IsNamed : Variant → Line → List ℕ → Type 0
IsNamed variant line name = (line.variant ≡ variant) × (name ≡ line.name.items)

-- what came of the file that a line names is this event
abbrev pub IsEventOf : {File : Type 0} → Place File → Bool → Line → Event → Type 0
IsEventOf place ignore_missing line event =
    (outcome : Outcome) × IsOutcomeOf place line outcome
    × (event ≡ checked line.name.items (verdict_of ignore_missing line.digest.items outcome))

-- behind any events these are counted
abbrev pub Counts : Tally → List Event → Tally → Type 0
Counts before events after = (earlier : List Event) → IsTally earlier before → IsTally (earlier ++ events) after
