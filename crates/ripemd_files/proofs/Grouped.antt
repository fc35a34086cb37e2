-- Lines of a list, read one after another, and what comes of them.
use Rattle.ripemd_block.proofs.Library.{◌≡◌, ◌⊎◌, ◌≤◌, ◌<◌, ◌^◌, ℕ, suc, zero, ◌+◌, List, [], ◌∷◌, ◌++◌, length, map, take, Option, Some, None, Bool, inl, inr, refl, sym, ap, ◌∙◌, append_assoc, arith, AllZip, Consumes, Consumes-nil, Consumes-trans, cases_Bool, append-nil, length-append, length-map, length-take, take-append-le, take-map, take_min}
use Rattle.ripemd_files.specs.Types.{Error, Layout, Line, Rules, Cursor, Group, Piece, Among, Fault, NoMemory}
use Rattle.std.proofs.lemmas.Grind.{fold-append}
use Rattle.ripemd_files.specs.declared.piece.Piece.TheVariants as pieces
use Rattle.ripemd_files.specs.Files.{Place}
use Rattle.ripemd_files.specs.Splitting.{IsPiece, IsWhole, ListState, ReadsOn, lines_of, stage_after}
use Rattle.ripemd_files.specs.Checking.{Event, IsEventOf, misformatted}
use Rattle.ripemd_files.specs.Lists.{Entry, IsEventOn, Reports, entries_of, entry_of, is_passed_over, layout_after, layout_behind}
use Rattle.ripemd_files.specs.Groups.{EndsAs, ExplainsReading, ReadsGroup, ReadsLines, Meaning, Means, StopsReading, Takes, misformatted_events, meanings}
use Rattle.ripemd_files.specs.Groups.Meaning.{names, nothing}
use Rattle.ripemd_files.proofs.Cutting.{cut, ended_since, lines_first, lines_last, whole_more}
use Rattle.ripemd_files.proofs.Zips.{all_zip_append, all_zip_take, all_zip_through}

-- ---- entries

module _ (kinds : Rules) where
  -- lines, and then others
  entries-append : (layout : Option Layout) (number : ℕ) (lines more : List (List ℕ)) → entries_of kinds layout number (lines ++ more)
      ≡ entries_of kinds layout number lines ++ entries_of kinds (layout_behind kinds layout lines) (number + length lines) more
  entries-append layout number [] more = let at : number ≡ number + 0 = omega arith in ap (λ n. entries_of kinds layout n more) at
  entries-append layout number (text ∷ lines) more =
      let at : (number + 1) + length lines ≡ number + length (text ∷ lines) = omega arith in
      ap (λ l. entry_of kinds layout number text ++ l) (entries-append (layout_after kinds layout text) (number + 1) lines more)
      ∙ sym (append_assoc (entry_of kinds layout number text) (entries_of kinds (layout_after kinds layout text) (number + 1) lines) _)
      ∙ ap (λ n. entries_of kinds layout number (text ∷ lines) ++ entries_of kinds (layout_behind kinds layout (text ∷ lines)) n more) at

  onto : (entry : List Entry) (count : ℕ) (some all : List Entry) → some ≡ take count all → entry ++ some ≡ take (length entry + count) (entry ++ all)
  onto [] count some all same = let at : count ≡ 0 + count = omega arith in same ∙ ap (λ n. take n all) at
  onto (e ∷ entry) count some all same =
      let at : suc (length entry + count) ≡ length (e ∷ entry) + count = omega arith in
      ap (λ l. e ∷ l) (onto entry count some all same) ∙ ap (λ n. take n (e ∷ (entry ++ all))) at

  -- the first entries are those of the first lines
  first_entries : (count : ℕ) (layout : Option Layout) (number : ℕ) (lines : List (List ℕ)) → (first : List (List ℕ)) × (back : List (List ℕ))
      × (lines ≡ first ++ back) × (entries_of kinds layout number first ≡ take count (entries_of kinds layout number lines))
  first_entries zero layout number lines = ([], lines, refl, refl)
  first_entries (suc count) layout number [] = ([], [], refl, refl)
  first_entries (suc count) layout number (text ∷ lines) =
      let on : (n : ℕ) → length (entry_of kinds layout number text) + n ≡ suc count → (first : List (List ℕ)) × (back : List (List ℕ))
      × (text ∷ lines ≡ first ++ back) × (entries_of kinds layout number first ≡ take (suc count) (entries_of kinds layout number (text ∷ lines))) =
      λ n all.
      let (first, back, split, same) = first_entries n (layout_after kinds layout text) (number + 1) lines in
      (text ∷ first, back, ap (λ l. text ∷ l) split, onto (entry_of kinds layout number text) n _ _ same ∙ ap (λ k. take k (entries_of kinds layout number (text ∷ lines))) all) in
      elim (cases_Bool (is_passed_over text)) [
        | inl skipped ↦ on (suc count) (rw skipped (omega arith))
        | inr counts ↦ on count (rw counts (omega arith))
      ]

-- ---- events

module _ {File : Type 0} (place : Place File) (ignore_missing : Bool) (kinds : Rules) where
  -- what comes of lines, and then of others
  pub reports_more : (layout behind : Option Layout) (number next : ℕ) (lines more : List (List ℕ)) (events others : List Event)
      → behind ≡ layout_behind kinds layout lines → next ≡ number + length lines → Reports place ignore_missing kinds layout number lines events
      → Reports place ignore_missing kinds behind next more others → Reports place ignore_missing kinds layout number (lines ++ more) (events ++ others)
  reports_more layout behind number next lines more events others is_behind is_next first second =
      rw entries-append (all_zip_append _ _ _ _ _ first (rw (is_behind, is_next) at second))

  -- what comes of the line that an entry names, or of one that says nothing
  abbrev IsEventOfMeaning : Meaning → Event → Type 0
  IsEventOfMeaning (names line) event = IsEventOf place ignore_missing line event
  IsEventOfMeaning (nothing number) event = event ≡ misformatted number

  on_entry : (entry : Entry) (what : Meaning) (event : Event) → Means kinds entry what → IsEventOfMeaning what event
      → IsEventOn place ignore_missing kinds entry.layout entry.number entry.text event
  on_entry entry (names line) event taken (outcome, comes, is) = rw is (line.variant, line.digest.items, outcome, taken, comes, refl)
  on_entry entry (nothing number) event says is = rw is says

  of_lines : (lines : List Line) (events : List Event) → AllZip (IsEventOf place ignore_missing) lines events → AllZip IsEventOfMeaning (map names lines) events
  of_lines [] [] zipped = tt
  of_lines (line ∷ lines) (event ∷ events) zipped = (zipped.0, of_lines lines events zipped.1)
  of_lines _ _ zipped = absurd (assumption)

  of_meanings : (lines : List Line) (bad : Option ℕ) (events : List Event) → AllZip (IsEventOf place ignore_missing) lines events
      → AllZip IsEventOfMeaning (meanings lines bad) (events ++ misformatted_events bad)
  of_meanings lines None events zipped = rw append-nil (of_lines lines events zipped)
  of_meanings lines (Some number) events zipped = all_zip_append _ _ _ _ _ (of_lines lines events zipped) (refl, tt)

  named_first : (count : ℕ) (lines : List Line) → take (length (take count lines)) (map names lines) ≡ map names (take count lines)
  named_first count lines = rw take-map (ap (map names) (rw length-take (take_min count lines)))

  -- the first of what was meant
  meanings_first : (count : ℕ) (lines : List Line) (bad : Option ℕ) → take (length (take count lines)) (meanings lines bad) ≡ map names (take count lines)
  meanings_first count lines None = named_first count lines
  meanings_first count lines (Some number) =
      take-append-le (length (take count lines)) (map names lines) (nothing number ∷ []) (omega (arith, length-take count lines, length-map lines names))
      ∙ named_first count lines

  module _ {old new : Option (List ℕ)} {before after : Cursor} {lines : List Line} {bad : Option ℕ} {rest : List ℕ}
      (reads : ReadsLines kinds old new before after lines bad rest) where
    -- what comes of all lines of a group
    pub group_reports : (events : List Event) → AllZip (IsEventOf place ignore_missing) lines events
        → Reports place ignore_missing kinds before.layout before.number (lines_of reads.bytes) (events ++ misformatted_events bad)
    group_reports events zipped = all_zip_through _ _ _ _ _ _ on_entry reads.means (of_meanings lines bad events zipped)

    -- or of the first of them
    pub group_partly : (count : ℕ) (events : List Event) → AllZip (IsEventOf place ignore_missing) (take count lines) events
        → (first : List (List ℕ)) × (back : List (List ℕ)) × (lines_of reads.bytes ≡ first ++ back)
        × Reports place ignore_missing kinds before.layout before.number first events
    group_partly count events zipped =
        let n = length (take count lines) in
        let (first, back, split, same) = first_entries kinds n before.layout before.number (lines_of reads.bytes) in
        let means = rw meanings_first at (all_zip_take (Means kinds) n _ _ reads.means) in
        (first, back, split, rw same (all_zip_through _ _ _ _ _ _ on_entry means (of_lines _ events zipped)))

-- ---- reading

-- nothing yet
pub reads_nothing : (kinds : Rules) (old : Option (List ℕ)) (cursor : Cursor) (lines : List Line) → lines ≡ []
    → (reads : ReadsLines kinds old old cursor cursor lines None []) × IsWhole reads.bytes
unfolding lines_of
reads_nothing kinds old cursor lines empty =
    (record { bytes = []; consumed = Consumes-nil old; numbered = omega arith; layout = refl; means = rw empty tt }, inl refl)

module _ (kinds : Rules) (old now next : Option (List ℕ)) (before cursor : Cursor) (lines : List Line)
    (so_far : ReadsLines kinds old now before cursor lines None []) (whole : IsWhole so_far.bytes) where
  pub taken : Consumes old now so_far.bytes
  taken = rw append-nil at so_far.consumed

  module _ (after : Cursor) (text : List ℕ) (others : List Line) (bad : Option ℕ) (takes : Takes kinds cursor after text lines others bad)
      (step : after.number ≡ cursor.number + 1) where
    abbrev reads : (tail : List ℕ) → lines_of tail ≡ text ∷ [] → Consumes now next tail → ReadsLines kinds old next before after others bad []
    reads tail is_line read =
        let all_lines = cut so_far.bytes tail whole ∙ ap (λ l. lines_of so_far.bytes ++ l) is_line in
        record {
          bytes = so_far.bytes ++ tail;
          consumed = rw append-nil (Consumes-trans old now next so_far.bytes tail taken read);
          numbered = omega (arith, step, so_far.numbered, ap length all_lines, length-append (lines_of so_far.bytes) (text ∷ []));
          layout = rw (all_lines, fold-append, takes.layout, so_far.layout) refl;
          means =
              rw (all_lines, entries-append, takes.grown)
              (all_zip_append _ _ _ _ _ so_far.means (rw append-nil (rw (so_far.layout, so_far.numbered) at takes.means)));
        }

    -- a line that ends with a newline
    pub reads_line : IsPiece 10 now next text pieces.Whole
        → (reads : ReadsLines kinds old next before after others bad []) × IsWhole reads.bytes
    unfolding lines_of
    reads_line piece =
        (reads (text ++ 10 ∷ []) (lines_first text [] piece.1) piece.0, whole_more so_far.bytes (text ++ 10 ∷ []) whole (inr (text, refl)))

    -- the last line, which ends with the list
    pub reads_last : IsPiece 10 now next text pieces.Last → ReadsLines kinds old next before after others bad []
    reads_last (read, ended, filled, one) = reads text (lines_last text one filled) read

  -- a line that can't be counted, or for which there is no memory
  module _ (text : List ℕ) (fault : Fault) (why : ExplainsReading (cursor.number + 1) [] fault) where
    pub stops : (tail : List ℕ) → lines_of tail ≡ text ∷ [] → Consumes now next tail → StopsReading old next before.number fault
    unfolding lines_of
    stops tail is_line read = record {
      bytes = so_far.bytes ++ tail;
      consumed = Consumes-trans old now next so_far.bytes tail taken read;
      why = grind (arith, why, so_far.numbered, cut so_far.bytes tail whole, length-append, is_line);
    }

  pub stops_reading : ReadsOn now next → StopsReading old next before.number NoMemory
  stops_reading (more, read) = record { bytes = so_far.bytes ++ more; consumed = Consumes-trans old now next so_far.bytes more taken read; why = tt }

  -- no line more: the list has ended, or a read of it failed in the middle of one
  unfoldable pub reads_no_more : (others : List Line) (bad : Option ℕ) → others ≡ lines → bad ≡ None → (rest : List ℕ) → Consumes now next rest
      → ReadsLines kinds old next before cursor others bad rest
  reads_no_more others bad same none rest read = record {
    bytes = so_far.bytes;
    consumed = Consumes-trans old now next so_far.bytes rest taken read;
    numbered = so_far.numbered;
    layout = so_far.layout;
    means = rw (same, none) so_far.means;
  }

-- ---- groups

-- after lines so far, the next piece
module _ (kinds : Rules) (old now : Option (List ℕ)) (state : ListState) (before cursor : Cursor) (lines : List Line)
    (so_far : ReadsLines kinds old now before cursor lines None []) (whole : IsWhole so_far.bytes) (text : List ℕ) where
  -- a line that can't be taken
  pub stops_piece : (piece : Piece) → (piece ≡ pieces.Whole) ⊎ (piece ≡ pieces.Last) → IsPiece 10 now state.left text piece
      → (fault : Fault) → ExplainsReading (cursor.number + 1) [] fault → StopsReading old state.left before.number fault
  unfolding lines_of
  stops_piece piece (inl is) given fault why =
      let (read, one) = rw is at given in stops _ _ _ _ _ _ _ so_far whole text fault why (text ++ 10 ∷ []) (lines_first text [] one) read
  stops_piece piece (inr is) given fault why =
      let (read, ended, filled, one) = rw is at given in stops _ _ _ _ _ _ _ so_far whole text fault why text (lines_last text one filled) read

  -- no line, at the end of the list or after a failed read
  pub ends_list : (piece : Piece) → (piece ≡ pieces.Nothing) ⊎ ((error : Error) × (piece ≡ pieces.Failed error)) → ¬ (stage_after piece ≡ Among)
  ends_list piece (inl is) among = grind arith
  ends_list piece (inr (error, is)) among = grind arith

  -- a line after which the group goes on
  pub goes_on : (piece : Piece) → (piece ≡ pieces.Whole) ⊎ (piece ≡ pieces.Last) → stage_after piece ≡ Among
      → IsPiece 10 now state.left text piece → (after : Cursor) (others : List Line) → Takes kinds cursor after text lines others None
      → after.number ≡ cursor.number + 1 → (reads : ReadsLines kinds old state.left before after others None []) × IsWhole reads.bytes
  goes_on piece (inl is) among given after others takes step =
      reads_line _ _ _ _ _ _ _ so_far whole after text others None takes step (rw is at given)
  goes_on piece (inr is) among given after others takes step = absurd (grind arith)

  module _ (group : Group) where
    -- the group ends as the piece does
    ends_so : (piece : Piece) → state.stage ≡ stage_after piece → group.stage ≡ stage_after piece → (after : Cursor) (rest : List ℕ)
        → (reads : ReadsLines kinds old state.left before after group.lines.items group.misformatted rest)
        → EndsAs (stage_after piece) old state.left reads.bytes rest
        → (stage_after piece ≡ Among → (before.number < after.number) × (after.number < 2 ^ 64)) → ReadsGroup kinds old state before after group
    ends_so piece stage ends after rest reads ended on = record {
      rest = rest;
      reads = reads;
      ended = rw ends ended;
      stage = stage ∙ sym ends;
      advanced = λ among. (on (sym ends ∙ among)).0;
      bounded = λ among. (on (sym ends ∙ among)).1;
    }

    -- a line that ends the group
    pub line_ends : before.number ≤ cursor.number → (piece : Piece) → (piece ≡ pieces.Whole) ⊎ (piece ≡ pieces.Last)
        → IsPiece 10 now state.left text piece → state.stage ≡ stage_after piece → group.stage ≡ stage_after piece → (after : Cursor)
        → Takes kinds cursor after text lines group.lines.items group.misformatted → after.number ≡ cursor.number + 1 → after.number < 2 ^ 64
        → ReadsGroup kinds old state before after group
    line_ends behind piece (inl is) given stage ends after takes step bound =
        let (reads, all) = reads_line _ _ _ _ _ _ _ so_far whole after text _ _ takes step (rw is at given) in
        ends_so piece stage ends after [] reads (rw is (all, refl)) (λ _. (omega (arith, step, behind), bound))
    line_ends behind piece (inr is) given stage ends after takes step bound =
        let last = rw is at given in
        ends_so piece stage ends after [] (reads_last _ _ _ _ _ _ _ so_far whole after text _ _ takes step last)
        (rw is (refl, ended_since _ _ _ _ (taken _ _ _ state.left _ _ _ so_far whole) last.1)) (λ _. (omega (arith, step, behind), bound))

    -- no line
    pub none_ends : (piece : Piece) → (piece ≡ pieces.Nothing) ⊎ ((error : Error) × (piece ≡ pieces.Failed error))
        → IsPiece 10 now state.left text piece → state.stage ≡ stage_after piece → group.stage ≡ stage_after piece
        → group.lines.items ≡ lines → group.misformatted ≡ None → ReadsGroup kinds old state before cursor group
    unfolding reads_no_more
    none_ends piece (inl is) given stage ends same none =
        let nothing = rw is at given in
        ends_so piece stage ends cursor [] (reads_no_more _ _ _ _ _ _ _ so_far whole _ _ same none [] nothing.0)
        (rw is (refl, ended_since _ _ _ _ (taken _ _ _ state.left _ _ _ so_far whole) nothing.1)) (λ among. absurd (ends_list piece (inl is) among))
    none_ends piece (inr (error, is)) given stage ends same none =
        let front = rw is at given in
        ends_so piece stage ends cursor text (reads_no_more _ _ _ _ _ _ _ so_far whole _ _ same none text front.0) (rw is (whole, front.1))
        (λ among. absurd (ends_list piece (inr (error, is)) among))
