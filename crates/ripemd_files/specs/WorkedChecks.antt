-- Checks of lists, worked. sha256sum of coreutils 9.1 says, counts and answers the same in these cases, with its own digests
-- and label.
use Rattle.std.specs.Prelude.{◌≡◌, ℕ, List, [], ◌∷◌, ◌++◌, codes, count_by, Bool, true, false, ◌&&◌, if◌then◌else◌, Some, None, Ok, ⊤}
use Rattle.std.specs.IoError.{error_kind}
use Rattle.ripemd_files.specs.Types.{Error, Variant, R128, R160, R256, R320, Form, Text, Binary, Tagged, Ending, Newline, Zero, Standard, Reversed, Rules, Outcome, Refused, Broken, Style, Verdict, Matches, Differs, Missing, Unreadable, Options, Tally}
use Rattle.std.specs.declared.io.ErrorKind.TheVariants as kinds
use Rattle.ripemd_files.specs.declared.log.Complaint.TheVariants as complaints
use Rattle.ripemd_files.specs.Said.{about_list, unreadable, written}
use Rattle.ripemd_files.specs.Printing.{items_on, line_for, remarks_on, was_read}
use Rattle.ripemd_files.specs.Checking.{Event, IsTally, checked, closing_remarks, counted, is_misformatted, is_success, items_of_event, line_of_event, misformatted, remarks_on_event, verdict_of}
use Rattle.ripemd_files.specs.Lists.{IsWanted, body_of_line, is_passed_over, layout_after}
use Rattle.ripemd_files.specs.Files.{Place, any_place}
use Rattle.ripemd_files.specs.Determined.{IsKnown}
use Rattle.ripemd_files.specs.Worked.{digits_of, digits_then}

-- ---- verdicts

-- a file with the digest 1 2 3, by the digest of its line
pub record DigestVerdicts (ignore_missing : Bool) (outcome : Outcome) : Type 0 where
  pub same : verdict_of ignore_missing (1 ∷ 2 ∷ 3 ∷ []) outcome ≡ Matches
  pub other_front : verdict_of ignore_missing (9 ∷ 2 ∷ 3 ∷ []) outcome ≡ Differs
  pub other_end : verdict_of ignore_missing (1 ∷ 2 ∷ 9 ∷ []) outcome ≡ Differs
  pub cut_short : verdict_of ignore_missing (1 ∷ 2 ∷ []) outcome ≡ Differs
  pub longer : verdict_of ignore_missing (1 ∷ 2 ∷ 3 ∷ 4 ∷ []) outcome ≡ Differs

-- a file that can't be opened or read
pub record ErrorVerdicts (error : Error) : Type 0 where
  pub not_there : error_kind error ≡ kinds.NotFound → verdict_of false [] (Refused error) ≡ Unreadable error
  pub left_out : error_kind error ≡ kinds.NotFound → verdict_of true [] (Refused error) ≡ Missing
  pub not_allowed : error_kind error ≡ kinds.PermissionDenied → verdict_of true [] (Refused error) ≡ Unreadable error
  pub in_no_folder : error_kind error ≡ kinds.NotADirectory → verdict_of true [] (Refused error) ≡ Unreadable error
  pub broken : (ignore_missing : Bool) → verdict_of ignore_missing [] (Broken error) ≡ Unreadable error

-- ---- lines and remarks

abbrev pub plain : Options
plain = record { ignore_missing = false; quiet = false; status = false; strict = false; warn = false }

abbrev pub ignoring : Options
ignoring = record plain { ignore_missing = true }

abbrev pub quietly : Options
quietly = record plain { quiet = true }

abbrev pub strictly : Options
strictly = record plain { strict = true }

abbrev pub warning : Options
warning = record plain { warn = true }

-- what is written of a verdict on the file "a"
abbrev pub says_of_a : Options → Verdict → List ℕ
says_of_a options verdict = line_of_event options (checked (codes "a") verdict)

pub record LinesOfEvents (error : Error) : Type 0 where
  pub matches : says_of_a plain Matches ≡ codes "a: OK\n"
  pub differs : says_of_a plain Differs ≡ codes "a: FAILED\n"
  pub an_error : says_of_a plain (Unreadable error) ≡ codes "a: FAILED open or read\n"
  pub missing : says_of_a ignoring Missing ≡ []
  pub damaged : line_of_event warning (misformatted 3) ≡ []
  pub quiet_match : says_of_a quietly Matches ≡ []
  pub quiet_difference : says_of_a quietly Differs ≡ codes "a: FAILED\n"
  pub quiet_error : says_of_a quietly (Unreadable error) ≡ codes "a: FAILED open or read\n"
  pub backslash : line_of_event plain (checked (codes "b\\c") Matches) ≡ codes "b\\c: OK\n"
  pub carriage_return : line_of_event plain (checked (codes "c\rd") Matches) ≡ codes "c\rd: OK\n"
  pub control : line_of_event plain (checked (9 ∷ 11 ∷ []) Matches) ≡ 9 ∷ 11 ∷ codes ": OK\n"
  pub newline_and_tab : line_of_event plain (checked (codes "a\n\tb") Differs) ≡ codes "\\a\\n\tb: FAILED\n"
  pub all_special : line_of_event plain (checked (codes "a\nb\\c\rd") Matches) ≡ codes "\\a\\nb\\\\c\\rd: OK\n"

pub record RemarksOnEvents (error : Error) : Type 0 where
  pub matches : remarks_on_event warning (checked (codes "a") Matches) ≡ []
  pub differs : remarks_on_event warning (checked (codes "a") Differs) ≡ []
  pub missing : remarks_on_event warning (checked (codes "a") Missing) ≡ []
  pub an_error : remarks_on_event plain (checked (codes "a") (Unreadable error)) ≡ unreadable (codes "a") error ∷ []
  pub warned : remarks_on_event warning (misformatted 3) ≡ about_list (complaints.Misformatted 3) ∷ []
  pub not_warned : remarks_on_event plain (misformatted 3) ≡ []

-- a remark on a file stands before its line
pub record ItemsOfEvents (error : Error) : Type 0 where
  pub an_error : items_of_event plain (checked [] (Unreadable error)) ≡ unreadable [] error ∷ written (codes ": FAILED open or read\n")

-- ---- counts

abbrev pub tally : ℕ → ℕ → ℕ → Bool → Bool → Tally
tally bad differing failed matched any =
    record { misformatted = bad; differing = differing; unreadable = failed; matched = matched; checked = any }

abbrev pub found : Verdict → Event
found verdict = checked (codes "a") verdict

-- one line that is damaged, two other digests, three errors, and one each of the others
abbrev pub all_kinds : Error → List Event
all_kinds error =
    found Differs ∷ found (Unreadable error) ∷ misformatted 3 ∷ found Missing ∷ found (Unreadable error) ∷ found Matches ∷ found Differs
    ∷ found (Unreadable error) ∷ []

pub record Tallies (error : Error) : Type 0 where
  pub none : IsTally [] (tally 0 0 0 false false)
  pub damaged : IsTally (misformatted 1 ∷ misformatted 2 ∷ []) (tally 2 0 0 false false)
  pub one_difference : IsTally (found Differs ∷ []) (tally 0 1 0 false true)
  pub one_error : IsTally (found (Unreadable error) ∷ []) (tally 0 0 1 false true)
  pub one_missing : IsTally (found Missing ∷ []) (tally 0 0 0 false true)
  pub all : IsTally (all_kinds error) (tally 1 2 3 true true)

-- lists that are too long to be counted
pub record LongCounts (events : List Event) : Type 0 where
  pub last : count_by is_misformatted events ≡ 18446744073709551615 → counted is_misformatted events ≡ 18446744073709551615
  pub past : count_by is_misformatted events ≡ 18446744073709551616 → counted is_misformatted events ≡ 18446744073709551615

pub record ClosingRemarks : Type 0 where
  pub nothing : closing_remarks plain (tally 0 0 0 true true) ≡ []
  pub damaged : closing_remarks plain (tally 2 0 0 true true) ≡ about_list (complaints.MisformattedLines 2) ∷ []
  pub errors : closing_remarks plain (tally 0 0 2 false true) ≡ about_list (complaints.UnreadableFiles 2) ∷ []
  pub differences : closing_remarks plain (tally 0 2 0 false true) ≡ about_list (complaints.Mismatches 2) ∷ []
  pub none_verified : closing_remarks ignoring (tally 0 0 0 false true) ≡ about_list complaints.NothingVerified ∷ []
  pub one_verified : closing_remarks ignoring (tally 0 0 0 true true) ≡ []
  pub in_order : closing_remarks ignoring (tally 1 2 3 false true)
      ≡ about_list (complaints.MisformattedLines 1) ∷ about_list (complaints.UnreadableFiles 3) ∷ about_list (complaints.Mismatches 2)
      ∷ about_list complaints.NothingVerified ∷ []
  pub no_lines : closing_remarks plain (tally 0 0 0 false false) ≡ about_list complaints.NoLines ∷ []
  pub no_lines_but_damaged : closing_remarks ignoring (tally 1 0 0 false false) ≡ about_list complaints.NoLines ∷ []

pub record Answers : Type 0 where
  pub no_lines : is_success plain (tally 0 0 0 false false) ≡ false
  pub one_differs : is_success plain (tally 0 1 0 true true) ≡ false
  pub one_unreadable : is_success plain (tally 0 0 1 true true) ≡ false
  pub damaged : is_success plain (tally 1 0 0 true true) ≡ true
  pub strictly_damaged : is_success strictly (tally 1 0 0 true true) ≡ false
  pub strictly_all_match : is_success strictly (tally 0 0 0 true true) ≡ true
  pub ignoring_all : is_success ignoring (tally 0 0 0 false true) ≡ false
  pub ignoring_damaged : is_success ignoring (tally 1 0 0 true true) ≡ true

-- ---- options

-- what each option does, whatever the others say
pub record OptionLaws (options : Options) (event : Event) (counts : Tally) : Type 0 where
  pub line : line_of_event options event ≡ (if options.status then [] else line_of_event (record plain { quiet = options.quiet }) event)
  pub remarks : remarks_on_event options event ≡ remarks_on_event (record plain { warn = options.warn }) event
  pub closing : closing_remarks options counts
      ≡ (if options.status && counts.checked then [] else closing_remarks (record plain { ignore_missing = options.ignore_missing }) counts)
  pub answer : is_success options counts
      ≡ (is_success (record plain { ignore_missing = options.ignore_missing }) counts && is_success (record plain { strict = options.strict }) counts)

-- ---- lines of a list

pub record PassedOver : Type 0 where
  pub comment : is_passed_over (codes "#..") ≡ true
  pub semicolon : is_passed_over (codes ";..") ≡ false
  pub empty : is_passed_over [] ≡ true
  pub carriage_return : is_passed_over (codes "\r") ≡ true
  pub two_carriage_returns : is_passed_over (codes "\r\r") ≡ false
  pub blank : is_passed_over (codes " ") ≡ false
  pub behind_a_blank : is_passed_over (codes " #") ≡ false
  pub text : is_passed_over (codes "a\r") ≡ false

pub record Bodies : Type 0 where
  pub empty : body_of_line [] ≡ []
  pub one_of_two : body_of_line (codes "ab\r\r") ≡ codes "ab\r"
  pub inside : body_of_line (codes "a\rb") ≡ codes "a\rb"

-- lines of each variant, or of one alone
abbrev pub all_lines : Rules
all_lines = record { only = None; from_input = false }

abbrev pub lines_of_128 : Rules
lines_of_128 = record { only = Some R128; from_input = false }

pub record NextLayouts : Type 0 where
  pub later_reversed : layout_after all_lines (Some Standard) (digits_then (codes " abc")) ≡ Some Standard
  pub later_standard : layout_after all_lines (Some Reversed) (digits_then (codes "  abc")) ≡ Some Reversed
  pub empty : layout_after all_lines (Some Reversed) [] ≡ Some Reversed
  pub ended_by_two : layout_after all_lines None (digits_then (codes "  a\r")) ≡ Some Standard
  pub no_name : layout_after all_lines None (digits_then (codes " \r")) ≡ None
  pub only_another : layout_after lines_of_128 None (digits_then (codes "  abc")) ≡ None
  pub on_input : layout_after (record all_lines { from_input = true }) None (digits_then (codes " abc")) ≡ Some Reversed
  pub only_this : layout_after lines_of_128 None (digits_of R128 ++ codes " abc") ≡ Some Reversed

pub record Wanted : Type 0 where
  pub all : (variant : Variant) → IsWanted None variant
  pub this : IsWanted (Some R160) R160
  pub another : ¬ IsWanted (Some R160) R256

-- ---- lines that are printed

abbrev pub style : Form → Ending → Style
style form ending = record { variant = R320; form = form; ending = ending }

-- of a file "a" with the digest 01 AB, whatever the variant says of its length
pub record PrintedLines (outcome : Outcome) : Type 0 where
  pub as_text : line_for (style Text Newline) (codes "a") outcome ≡ codes "01ab  a\n"
  pub as_binary : line_for (style Binary Newline) (codes "a") outcome ≡ codes "01ab *a\n"
  pub tagged : line_for (style Tagged Newline) (codes "a") outcome ≡ codes "RMD320 (a) = 01ab\n"
  pub text_with_zero : line_for (style Text Zero) (codes "a") outcome ≡ codes "01ab  a" ++ 0 ∷ []
  pub special : line_for (style Text Newline) (codes "b\\c") outcome ≡ codes "\\01ab  b\\\\c\n"
  pub remarks : remarks_on (codes "a") outcome ≡ []
  pub read : was_read outcome ≡ true
  pub items : items_on (style Text Newline) (codes "a") outcome ≡ written (codes "01ab  a\n")

pub record PrintedErrors (style : Style) (error : Error) : Type 0 where
  pub refused : line_for style (codes "a") (Refused error) ≡ []
  pub broken : line_for style (codes "a") (Broken error) ≡ []
  pub remark_refused : remarks_on (codes "a") (Refused error) ≡ unreadable (codes "a") error ∷ []
  pub remark_broken : remarks_on (codes "a") (Broken error) ≡ unreadable (codes "a") error ∷ []
  pub not_read : was_read (Refused error) ≡ false
  pub not_read_whole : was_read (Broken error) ≡ false

-- ---- folders of which all is known

-- every name opens a file of these bytes, of which a read may fail as said
abbrev pub one_file : List ℕ → (List ℕ → Error → Type 0) → Place (List ℕ)
one_file bytes may_fail = record { opens = λ name file. file ≡ bytes; refuses = λ name error. ⊥; left = Some; readable = λ file. ⊤; may_fail = may_fail }

pub record KnownFolders (error : Error) : Type 0 where
  pub one : IsKnown (one_file (codes "hi") (λ file error. ⊥)) (λ name. Ok (codes "hi"))
  pub other : ¬ IsKnown (one_file (codes "hi") (λ file error. ⊥)) (λ name. Ok [])
  pub failing : ¬ IsKnown (one_file (codes "hi") (λ file error. ⊤)) (λ name. Ok (codes "hi"))
  pub unknown : ¬ IsKnown (any_place {File = List ℕ}) (λ name. Ok (codes "hi"))
