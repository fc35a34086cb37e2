-- Where all is known of a folder, one thing is right.
use Rattle.ripemd_block.proofs.Library.{◌≡◌, ◌≢◌, ◌⊎◌, ℕ, ◌+◌, ◌<◌, ◌++◌, List, [], ◌∷◌, length, take, Option, Some, Bool, true, false, refl, sym, ap, subst, ◌∙◌, arith, inl, inr, append_assoc, Result, Ok, unwrap_or, Err, append-nil, length-append, AllZip, list_all, Consumes, IsAtEnd, take-append_seam}
use Rattle.std.proofs.Common.{flat_map}
use Rattle.ripemd_files.specs.Lines.{line_of, end_of}
use Rattle.ripemd_files.specs.Types.{Error, Layout, Standard, Rules, Outcome, Digest, Refused, Broken, Stage, Style, Options, Tally, Verdict, Among, Ended}
use Rattle.ripemd.specs.Standard.{ripemd}
use Rattle.ripemd_files.specs.Checking.{Event, IsTally, checked, misformatted, verdict_of, verdict_of_digest}
use Rattle.ripemd_files.specs.Determined.{IsKnown, Print, Report, Start}
use Rattle.ripemd_files.specs.Lists.{Entry, IsEventOn, IsReport, WasRead, body_of_line}
use Rattle.ripemd_files.specs.Printing.{IsReading, Reading, items_of_reading, items_on, was_read}
use Rattle.ripemd_files.specs.Files.{Breaks, ComesTo, Gives, Place, parameters_of}
use Rattle.ripemd_files.specs.Said.{Adds, Item, unreadable, written}
use Rattle.ripemd_files.specs.Splitting.{lines_of}
use Rattle.ripemd_files.specs.WorkedChecks.{tally}
use Rattle.ripemd_files.proofs.Sayings.{one_line}

-- ---- files

-- what was taken of known bytes up to their end is all of them
taken_all : (bytes message : List ℕ) (left : Option (List ℕ)) → Consumes (Some bytes) left message → IsAtEnd left → bytes ≡ message
taken_all bytes message left taken end = grind (arith, append-nil, taken, end)

-- and otherwise not more than these
taken_some : (bytes message : List ℕ) (left : Option (List ℕ)) → Consumes (Some bytes) left message → length message < length bytes + 1
taken_some bytes message left taken = grind (arith, length-append, taken)

-- the verdict on a file, and what is printed of it, by what its name gives
abbrev pub verdict_by : Bool → (List ℕ → List ℕ) → List ℕ → Result (List ℕ) Error → Verdict
verdict_by ignore_missing hash wanted (Ok given) = verdict_of_digest (hash given) wanted
verdict_by ignore_missing hash wanted (Err error) = verdict_of ignore_missing wanted (Refused error)

abbrev pub items_by : Style → List ℕ → Result (List ℕ) Error → List Item
items_by style name (Ok given) =
    written (line_of style.ending style.form style.variant (ripemd (parameters_of style.variant) given) name ++ end_of style.ending)
items_by style name (Err error) = unreadable name error ∷ []

abbrev pub is_given : Result (List ℕ) Error → Bool
is_given (Ok given) = true
is_given (Err error) = false

module _ {File : Type 0} (place : Place File) (contents : List ℕ → Result (List ℕ) Error) (known : IsKnown place contents) where
  given_all : (name message : List ℕ) → Gives (place.opens name) place.left message → contents name ≡ Ok message
  given_all name message gives =
      let (bytes, named, left, short) = known.opened name gives.gave.opened gives.gave.is_opened in
      let taken : Consumes (Some bytes) (place.left gives.ended) message = rw left at gives.gave.given in
      named ∙ ap (λ (b : List ℕ). Ok b) (taken_all bytes message (place.left gives.ended) taken gives.at_end)

  not_broken : (name : List ℕ) (error : Error) → ¬ Breaks (place.opens name) place.left place.may_fail error
  not_broken name error breaks =
      let (bytes, named, left, short) = known.opened name breaks.gave.opened breaks.gave.is_opened in
      let taken : Consumes (Some bytes) (place.left breaks.now) breaks.bytes = rw left at breaks.gave.given in
      grind (arith, known.sound breaks.now error, breaks.fails, short, taken_some bytes breaks.bytes (place.left breaks.now) taken)

  verdict_at : (ignore_missing : Bool) (hash : List ℕ → List ℕ) (name wanted : List ℕ) (outcome : Outcome) → ComesTo place hash name outcome
      → verdict_of ignore_missing wanted outcome ≡ verdict_by ignore_missing hash wanted (contents name)
  verdict_at ignore_missing hash name wanted (Digest d) (m, gives, is) =
      rw (given_all name m gives) (ap (λ bytes. verdict_of_digest bytes wanted) is)
  verdict_at ignore_missing hash name wanted (Refused e) comes = rw (known.refused name e comes) refl
  verdict_at ignore_missing hash name wanted (Broken e) comes = absurd (not_broken name e comes)

  items_at : (style : Style) (name : List ℕ) (outcome : Outcome) → ComesTo place (ripemd (parameters_of style.variant)) name outcome
      → (items_on style name outcome ≡ items_by style name (contents name)) × (was_read outcome ≡ is_given (contents name))
  items_at style name (Digest d) (m, gives, is) = rw (given_all name m gives, is) (refl, refl)
  items_at style name (Refused e) comes = rw (known.refused name e comes) (refl, refl)
  items_at style name (Broken e) comes = absurd (not_broken name e comes)

-- ---- lines of a list

module _ {File : Type 0} (place : Place File) (contents : List ℕ → Result (List ℕ) Error) (known : IsKnown place contents)
    (ignore_missing : Bool) (rules : Rules) where
  one_event : (layout : Option Layout) (number : ℕ) (text : List ℕ) (e f : Event) → IsEventOn place ignore_missing rules layout number text e
      → IsEventOn place ignore_missing rules layout number text f → e ≡ f
  one_event layout number text (misformatted m) (misformatted n) a b = ap misformatted (a.0 ∙ sym b.0)
  one_event layout number text (misformatted m) (checked name verdict) a b = absurd (a.1 b.0 b.1 name b.3)
  one_event layout number text (checked name verdict) (misformatted n) a b = absurd (b.1 a.0 a.1 name a.3)
  one_event layout number text (checked name verdict) (checked other_name other_verdict) a b =
      let one = one_line (unwrap_or layout Standard) (body_of_line text) a.0 b.0 a.1 b.1 name other_name a.3.is_line b.3.is_line in
      let first = a.5 ∙ verdict_at place contents known ignore_missing _ name a.1 a.2 a.4 in
      let second = b.5 ∙ verdict_at place contents known ignore_missing _ other_name b.1 b.2 b.4 in
      cc (one.0, one.1, one.2, first, second)

  -- one list of events comes of entries
  one_list : (entries : List Entry) (es fs : List Event)
      → AllZip (λ entry event. IsEventOn place ignore_missing rules entry.layout entry.number entry.text event) entries es
      → AllZip (λ entry event. IsEventOn place ignore_missing rules entry.layout entry.number entry.text event) entries fs → es ≡ fs
  one_list [] [] [] a b = refl
  one_list (entry ∷ entries) (e ∷ es) (f ∷ fs) a b =
      cc (one_event entry.layout entry.number entry.text e f a.0 b.0, one_list entries es fs a.1 b.1)
  one_list _ _ _ a b = grind arith

-- ---- what is counted and said

one_tally : (events : List Event) (t u : Tally) → IsTally events t → IsTally events u → t ≡ u
one_tally events t u a b =
    let same : tally t.misformatted t.differing t.unreadable t.matched t.checked ≡ tally u.misformatted u.differing u.unreadable u.matched u.checked = cc in
    same

grown : (old more : List Item) (new : Option (List Item)) → Adds (Some old) new more → new ≡ Some (old ++ more)
grown old more new a = grind (arith, a)

-- ---- lists

-- what was read of a list is its front
front : (list bytes rest : List ℕ) (left : Option (List ℕ)) → Consumes (Some list) left (bytes ++ rest) → bytes ≡ take (length bytes) list
front list bytes rest left read = grind (arith, take-append_seam, append_assoc, read)

-- all lines that were read
module _ (list : List ℕ) {stage : Stage} {left : Option (List ℕ)} {lines : List (List ℕ)} (read : WasRead stage (Some list) left lines) where
  all_of : stage ≢ Among → lines_of read.bytes ≡ lines
  all_of over = grind (arith, append-nil, over, read.split, read.reached)

  lines_to_end : stage ≡ Ended → lines_of list ≡ lines
  lines_to_end is = grind (arith, append-nil, is, read.split, read.reached, read.consumed)

-- which are the same if all of the list was read, or as much of it
same_far : (list : List ℕ) {stage other : Stage} {left right : Option (List ℕ)} {lines more : List (List ℕ)}
    (a : WasRead stage (Some list) left lines) (b : WasRead other (Some list) right more) → stage ≡ other → stage ≢ Among → other ≢ Among
    → stage ≡ Ended ⊎ (length a.bytes ≡ length b.bytes) → lines ≡ more
same_far list a b same over too (inl is) = sym (lines_to_end list a is) ∙ lines_to_end list b (sym same ∙ is)
same_far list a b same over too (inr far) =
    cc (all_of list a over, all_of list b too, front list a.bytes a.rest _ a.consumed, front list b.bytes b.rest _ b.consumed, far)

module _ {File : Type 0} (place : Place File) (contents : List ℕ → Result (List ℕ) Error) (options : Options) (rules : Rules)
    (first : Option Layout) (start : Start) (known : IsKnown place contents) where
  -- of the same lines one thing is said
  same_lines : {stage other : Stage} {left right : Option (List ℕ)} {xs ys : List Item} {t u : Tally}
      (a : IsReport place options rules first (Some start.list) left stage xs t)
      (b : IsReport place options rules first (Some start.list) right other ys u)
      → stage ≡ other → a.lines ≡ b.lines → (t ≡ u) × (xs ≡ ys)
  same_lines {t = t} {u = u} a b both same =
      let come = one_list place contents known options.ignore_missing rules _ a.events b.events a.reports (rw same b.reports) in
      let tally : t ≡ u = one_tally b.events t u (subst (λ es. IsTally es t) come a.counts) b.counts in
      (tally, cc (a.said, b.said, come, tally, both))

  pub one_report : (one other : Report place options rules first start) → one.left.stage ≡ other.left.stage
      → one.left.stage ≡ Ended ⊎ (length one.checks.report.read.bytes ≡ length other.checks.report.read.bytes)
      → (one.last ≡ other.last) × (one.told.items ≡ other.told.items) × (one.success ≡ other.success)
  one_report one other same far =
      let a = one.checks in
      let b = other.checks in
      let lines = same_far start.list a.report.read b.report.read same a.is_over b.is_over far in
      let said = same_lines a.report b.report same lines in
      (cc (a.layout, b.layout, lines), cc (grown _ _ _ a.tells.adds, grown _ _ _ b.tells.adds, said.1), cc (a.answer, b.answer, same, said.0))

-- ---- files that are printed

module _ (contents : List ℕ → Result (List ℕ) Error) (style : Style) where
  abbrev items : List (List ℕ) → List Item
  items = flat_map (λ (name : List ℕ). items_by style name (contents name))

  abbrev are_given : List (List ℕ) → Bool
  are_given = list_all (λ (name : List ℕ). is_given (contents name))

-- what is printed of files is by what their names give
prints_by : {File : Type 0} (place : Place File) (contents : List ℕ → Result (List ℕ) Error) (style : Style) → IsKnown place contents
    → (names : List (List ℕ)) (rs : List Reading) → AllZip (IsReading place style) names rs
    → (flat_map (items_of_reading style) rs ≡ items contents style names)
    × (list_all (λ (r : Reading). was_read r.outcome) rs ≡ are_given contents style names)
prints_by place contents style known [] [] read = (refl, refl)
prints_by place contents style known (name ∷ names) (r ∷ rs) read =
    let here = items_at place contents known style name r.outcome read.0.1 in
    let more = prints_by place contents style known names rs read.1 in
    (rw (read.0.0, here.0, more.0) refl, rw (here.1, more.1) refl)
prints_by place contents style known _ _ read = absurd read

pub one_print : {File : Type 0} (place : Place File) (contents : List ℕ → Result (List ℕ) Error) (style : Style) (names : List (List ℕ))
    (before : List Item) (failure : Option Error) → IsKnown place contents
    → (one other : Print place style names (record { items = Some before; failure = failure }))
    → (one.told.items ≡ other.told.items) × (one.all ≡ other.all)
one_print place contents style names before failure known one other =
    let a = prints_by place contents style known names one.prints.found one.prints.each in
    let b = prints_by place contents style known names other.prints.found other.prints.each in
    (cc (a.0, b.0, grown _ _ _ one.prints.tells.adds, grown _ _ _ other.prints.tells.adds), cc (a.1, b.1, one.prints.counts, other.prints.counts))
