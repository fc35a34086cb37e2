-- What a check finds of the files of some lines.
use Rattle.ripemd_block.proofs.Library.{◌≡◌, ◌≢◌, ◌⊎◌, ℕ, zero, suc, ◌+◌, ◌<◌, ◌≤◌, ◌-◌, ◌^◌, List, [], ◌++◌, length, take, get_or, Option, Bool, true, refl, sym, ap, ◌∙◌, inl, inr, arith, append_assoc, append-nil, length-append, length-take-le, AllZip, list_any, Consumes, Consumes-nil, Consumes-trans, AllZip-long, flat_map-append}
use Rattle.std.proofs.Common.{flat_map}
use Rattle.std.proofs.lemmas.Grind.{fold-append}
use Rattle.ripemd.specs.Standard.{ripemd}
use Rattle.ripemd_files.specs.Types.{Fault, Write, NoMemory, TooManyLines, Line, Layout, Variant, Rules, Cursor, Group, Outcome, Stage, Verdict, Options, Tally, Among, Ended, Failed}
use Rattle.ripemd_files.specs.Files.{OfFirst, Place, ComesTo, parameters_of}
use Rattle.ripemd_files.specs.Said.{Explains, Stops, Tells, Told}
use Rattle.ripemd_files.specs.Splitting.{IsEnded, IsWhole, ListState, lines_of}
use Rattle.ripemd_files.specs.Checking.{Counts, Event, IsEventOf, IsNamed, IsOutcomeOf, IsTally, checked, items_of_event, verdict_of}
use Rattle.ripemd_files.specs.Groups.{ChecksFirst, ChecksLines, ChecksSoFar, EndsAs, ExplainsReading, ReadsGroup, StopsReading, misformatted_events}
use Rattle.ripemd_files.specs.Lists.{ChecksList, IsReport, Reaches, Reports, StopsList, last_remarks, layout_behind, succeeds}
use Rattle.ripemd_files.proofs.Cutting.{cut, ended_since, whole_more}
use Rattle.ripemd_files.proofs.Grouped.{group_partly, group_reports, reports_more}
use Rattle.ripemd_files.proofs.Telling.{stops_after, stops_for, stops_now, tells_more, tells_none}
use Rattle.ripemd_files.proofs.Zips.{all_zip_at, first_of}

-- some events have counts
some_tally : (events : List Event) → (tally : Tally) × IsTally events tally
some_tally events = (
  record { misformatted = _; differing = _; unreadable = _; matched = _; checked = _ },
  record { misformatted = refl; differing = refl; unreadable = refl; matched = refl; checked = refl },
)

-- the outcome of the file of a line, by its hash and name
pub outcome_of_named : {File : Type 0} (place : Place File) (variant : Variant) (line : Line) (name : List ℕ) (outcome : Outcome)
    → IsNamed variant line name → ComesTo place (ripemd (parameters_of variant)) name outcome → IsOutcomeOf place line outcome
outcome_of_named place variant line name outcome named comes = rw named.0 (rw named.1 at comes)

-- the first line of another hash ends them, and is not the first of all
pub named_till : (variant : Variant) (lines : List Line) (names : List (List ℕ)) (i : ℕ) (line : Line) → i < length lines
    → get_or lines i line ≡ line → ((first : Line) → 0 < length lines → get_or lines 0 first ≡ first → first.variant ≡ variant)
    → line.variant ≢ variant → AllZip (IsNamed variant) (take i lines) names → OfFirst (IsNamed variant) lines names
named_till variant lines names zero line within is first other named = absurd (other (first line within is))
named_till variant lines names (suc i) line within is first other named =
    first_of _ (suc i) lines names (omega (arith, within)) named
    (λ _. omega (arith, AllZip-long _ _ _ named, length-take-le (suc i) lines (omega (arith, within))))

-- counts of no events, of some and others, and of what came of a line
pub counts_none : (tally : Tally) → Counts tally [] tally
counts_none tally earlier counted = rw append-nil counted

pub counts_more : (a b c : Tally) (events others : List Event) → Counts a events b → Counts b others c → Counts a (events ++ others) c
counts_more a b c events others first second earlier counted = rw (← append_assoc) (second (earlier ++ events) (first earlier counted))

-- what came of the next of some lines, the files of which were read
pub event_at : {File : Type 0} (place : Place File) (ignore_missing : Bool) (lines : List Line) (outcomes : List Outcome)
    → AllZip (IsOutcomeOf place) lines outcomes → (k : ℕ) (line : Line) (outcome : Outcome) → k < length outcomes → line ≡ get_or lines k line
    → outcome ≡ get_or outcomes k outcome → (verdict : Verdict) → verdict ≡ verdict_of ignore_missing line.digest.items outcome
    → IsEventOf place ignore_missing line (checked line.name.items verdict)
event_at place ignore_missing lines outcomes read k line outcome within is_line is_outcome verdict is =
    let comes : IsOutcomeOf place line outcome =
    rw (← is_line, ← is_outcome) at
    (all_zip_at (IsOutcomeOf place) lines outcomes k line outcome read (omega (arith, AllZip-long _ _ _ read, within))) in
    (outcome, comes, ap (checked line.name.items) is)

-- nothing of a list yet
pub checks_begin : {File : Type 0} (place : Place File) (options : Options) (kinds : Rules) (cursor : Cursor) (list : Option (List ℕ)) (told : Told)
    (tally : Tally) → IsTally [] tally → ChecksSoFar place options kinds cursor cursor list list told told tally
unfolding lines_of
checks_begin place options kinds cursor list told tally counted = record {
  bytes = [];
  events = [];
  consumed = Consumes-nil list;
  whole = inl refl;
  numbered = omega arith;
  counts = counted;
  tells = tells_none told;
  layout = refl;
  reports = tt;
}

-- a list, after the groups before
module _ {File : Type 0} {place : Place File} {options : Options} {kinds : Rules} {first now : Cursor} {old read : Option (List ℕ)} {a b : Told}
    {tally : Tally} (so_far : ChecksSoFar place options kinds first now old read a b tally) (begins : first.number ≡ 1) where
  -- more of the list was read, and these events come of the first of its lines
  abbrev report_on : (next : Option (List ℕ)) (bytes rest : List ℕ) (lines behind : List (List ℕ)) (events : List Event) (stage : Stage) (tally : Tally)
      → Consumes read next (bytes ++ rest)
      → IsWhole bytes ⊎ ((rest ≡ []) × IsEnded read next)
      → lines_of bytes ≡ lines ++ behind → Reports place options.ignore_missing kinds now.layout now.number lines events
      → Reaches stage old next behind rest → IsTally (so_far.events ++ events) tally
      → IsReport place options kinds first.layout old next stage
      (flat_map (items_of_event options) (so_far.events ++ events) ++ last_remarks stage options tally) tally
  report_on next bytes rest lines behind events stage tally consumed ends split reports reached counts = record {
    lines = lines_of so_far.bytes ++ lines;
    events = so_far.events ++ events;
    read = record {
      bytes = so_far.bytes ++ bytes;
      rest = rest;
      behind = behind;
      consumed = rw append_assoc (Consumes-trans old read next so_far.bytes (bytes ++ rest) so_far.consumed consumed);
      cut = elim ends [
        | inl entire ↦ inl (whole_more so_far.bytes bytes so_far.whole entire)
        | inr over ↦ inr (over.0, ended_since old read next so_far.bytes so_far.consumed over.1)
      ];
      split = rw (cut so_far.bytes bytes so_far.whole, split, append_assoc) refl;
      reached = reached;
    };
    reports = rw begins at
        (reports_more place options.ignore_missing kinds first.layout now.layout first.number now.number (lines_of so_far.bytes) lines so_far.events events
        so_far.layout so_far.numbered so_far.reports reports);
    counts = counts;
    said = refl;
  }

  -- and these were told
  stopped : (next : Option (List ℕ)) (c : Told) (bytes rest : List ℕ) (lines behind : List (List ℕ)) (events : List Event) (fault : Fault)
      → Consumes read next (bytes ++ rest) → IsWhole bytes ⊎ ((rest ≡ []) × IsEnded read next)
      → lines_of bytes ≡ lines ++ behind → Reports place options.ignore_missing kinds now.layout now.number lines events
      → Stops (2 ^ 64 - 1 ≤ length (lines_of ((so_far.bytes ++ bytes) ++ rest))) b c (flat_map (items_of_event options) events) fault
      → StopsList place options kinds first.layout old next a c fault
  stopped next c bytes rest lines behind events fault consumed ends split reports stops =
      let (tally, counts) = some_tally (so_far.events ++ events) in
      record {
        stage = Among;
        items = _;
        tally = tally;
        report = report_on next bytes rest lines behind events Among tally consumed ends split reports tt counts;
        stops = rw (append-nil, flat_map-append) (stops_after _ a b c _ _ fault so_far.tells stops);
      }

  -- reading its next lines ended the run
  pub stops_reading_list : (next : Option (List ℕ)) {fault : Fault} → StopsReading read next now.number fault
      → StopsList place options kinds first.layout old next a b fault
  unfolding lines_of
  stops_reading_list next {fault} stops =
      stopped next b [] stops.bytes [] [] [] fault stops.consumed (inl (inl refl)) refl tt
      (stops_now _ b b [] fault (tells_none b) (λ works. explains fault stops.why))
    where
      explains : (fault : Fault) → ExplainsReading now.number stops.bytes fault
          → Explains (2 ^ 64 - 1 ≤ length (lines_of ((so_far.bytes ++ []) ++ stops.bytes))) b b fault
      explains (Write error) why = absurd why
      explains NoMemory why = refl
      explains TooManyLines why =
          (rw (append-nil, cut so_far.bytes stops.bytes so_far.whole, length-append) (omega (arith, why, begins, so_far.numbered)), refl)

  -- a group was read
  module _ {next : ListState} {after : Cursor} {group : Group} (reads : ReadsGroup kinds read next now after group) where
    ends : IsWhole reads.reads.bytes ⊎ ((reads.rest ≡ []) × IsEnded read next.left)
    ends = grind (arith, reads.ended)

    -- and of the first of its lines was told
    pub stops_lines : {lines : List Line} {c : Told} {fault : Fault} → lines ≡ group.lines.items → ChecksFirst place options lines b c fault
        → StopsList place options kinds first.layout old next.left a c fault
    stops_lines {c = c} {fault = fault} are_lines checks =
        let (lines, behind, split, reports) =
        group_partly place options.ignore_missing kinds reads.reads checks.count checks.found (rw are_lines at checks.each) in
        stopped next.left c reads.reads.bytes reads.rest lines behind checks.found fault reads.reads.consumed ends split reports (stops_for _ b c _ fault checks.stops)

    -- or of all
    module _ {lines : List Line} {c : Told} {counted : Tally} (are_lines : lines ≡ group.lines.items)
        (checks : ChecksLines place options lines b c tally counted) where
      abbrev found : List Event
      found = checks.found ++ misformatted_events group.misformatted

      -- what comes of all of its lines
      reported : Reports place options.ignore_missing kinds now.layout now.number (lines_of reads.reads.bytes) found
      reported = group_reports place options.ignore_missing kinds reads.reads checks.found (rw are_lines at checks.each)

      -- and the one that says nothing ended the run
      pub stops_misformatted : {d : Told} {fault : Fault}
          → Stops ⊥ c d (flat_map (items_of_event options) (misformatted_events group.misformatted)) fault
          → StopsList place options kinds first.layout old next.left a d fault
      stops_misformatted {d} {fault} stops =
          stopped next.left d reads.reads.bytes reads.rest (lines_of reads.reads.bytes) [] found fault reads.reads.consumed ends (sym (append-nil (lines_of reads.reads.bytes))) reported
          (rw flat_map-append (stops_after _ b c d _ _ fault checks.tells (stops_for _ c d _ fault stops)))

      -- or was told and counted, too
      module _ {d : Told} {next_tally : Tally} (bad : Tells c d (flat_map (items_of_event options) (misformatted_events group.misformatted)))
          (counts : (earlier : List Event) → IsTally earlier counted → IsTally (earlier ++ misformatted_events group.misformatted) next_tally) where
        told_on : Tells a d (flat_map (items_of_event options) (so_far.events ++ found))
        told_on =
            rw (flat_map-append (items_of_event options) so_far.events, flat_map-append (items_of_event options) checks.found)
            (tells_more a b d _ _ so_far.tells (tells_more b c d _ _ checks.tells bad))

        counted_all : IsTally (so_far.events ++ found) next_tally
        counted_all = rw (← append_assoc) (counts (so_far.events ++ checks.found) (checks.counts so_far.events so_far.counts))

        layout_over : after.layout ≡ layout_behind kinds first.layout (lines_of so_far.bytes ++ lines_of reads.reads.bytes)
        layout_over = rw (fold-append, ← so_far.layout) reads.reads.layout

        -- the list goes on
        pub checks_on : group.stage ≡ Among → ChecksSoFar place options kinds first after old next.left a d next_tally
        checks_on on =
            let bytes = reads.reads.bytes in
            let over : EndsAs Among read next.left bytes reads.rest = rw on at reads.ended in
            record {
              bytes = so_far.bytes ++ bytes;
              events = so_far.events ++ found;
              consumed = rw (over.1, append-nil) at
                  (Consumes-trans old read next.left so_far.bytes (bytes ++ reads.rest) so_far.consumed reads.reads.consumed);
              whole = whole_more so_far.bytes bytes so_far.whole over.0;
              numbered = omega (arith, so_far.numbered, reads.reads.numbered, ap length (cut so_far.bytes bytes so_far.whole), length-append (lines_of so_far.bytes) (lines_of bytes));
              counts = counted_all;
              tells = told_on;
              layout = rw (cut so_far.bytes bytes so_far.whole) layout_over;
              reports = rw (cut so_far.bytes bytes so_far.whole)
                  (reports_more place options.ignore_missing kinds _ _ _ _ _ _ _ _ so_far.layout so_far.numbered so_far.reports reported);
            }

        -- or is over
        reached : (stage : Stage) → EndsAs stage read next.left reads.reads.bytes reads.rest → Reaches stage old next.left [] reads.rest
        reached Among over = tt
        reached Ended over = (refl, over.0, ended_since old read next.left so_far.bytes so_far.consumed over.1)
        reached Failed over = (refl, over.1)

        abbrev report_over : IsReport place options kinds first.layout old next.left next.stage
            (flat_map (items_of_event options) (so_far.events ++ found) ++ last_remarks next.stage options next_tally) next_tally
        report_over =
            report_on next.left reads.reads.bytes reads.rest (lines_of reads.reads.bytes) [] found next.stage next_tally reads.reads.consumed ends
            (sym (append-nil (lines_of reads.reads.bytes))) reported (reached next.stage (rw reads.stage reads.ended)) counted_all

        pub checks_over : {e : Told} {success : Bool} → group.stage ≢ Among → Tells d e (last_remarks group.stage options next_tally)
            → success ≡ succeeds group.stage options next_tally → ChecksList place options kinds first.layout after.layout old next a e success
        checks_over {e} over said answer = record {
          items = _;
          tally = next_tally;
          report = report_over;
          layout = layout_over;
          is_over = rw reads.stage over;
          tells = tells_more a d e _ _ told_on (rw reads.stage said);
          answer = rw reads.stage answer;
        }

        pub stops_over : {e : Told} {fault : Fault} → Stops ⊥ d e (last_remarks group.stage options next_tally) fault
            → StopsList place options kinds first.layout old next.left a e fault
        stops_over {e} {fault} stops = record {
          stage = next.stage;
          items = _;
          tally = next_tally;
          report = report_over;
          stops = stops_for _ a e _ fault (stops_after ⊥ a d e _ _ fault told_on (rw reads.stage stops));
        }

-- there is no memory for the first
pub stops_at_once : {File : Type 0} (place : Place File) (options : Options) (kinds : Rules) (layout : Option Layout) (list : Option (List ℕ)) (told : Told)
    → StopsList place options kinds layout list list told told NoMemory
stops_at_once place options kinds layout list told =
    let cursor : Cursor = record { layout = layout; number = 1 } in
    let (tally, counts) = some_tally [] in
    stops_reading_list (checks_begin place options kinds cursor list told tally counts) refl list
    (record { bytes = []; consumed = Consumes-nil list; why = tt })
