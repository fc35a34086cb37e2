-- What comes of the lines of a list, one after another.
use Rattle.ripemd_block.proofs.Library.{◌≡◌, ◌≢◌, ℕ, List, [], ◌∷◌, ◌++◌, codes, map, Option, Some, None, unwrap_or, IsTrue, refl, sym, IsFalse, option_map, append-nil, map-append}
use Rattle.ripemd_files.specs.Types.{Variant, Layout, Standard, Line, Rules, Cursor}
use Rattle.ripemd_files.specs.Lines.{Says}
use Rattle.ripemd_files.specs.Lists.{IsTaken, IsWanted, body_of_line, entry_of, is_passed_over, layout_after}
use Rattle.ripemd_files.specs.Reading.{said_by, said_of}
use Rattle.ripemd_files.proofs.Sayings.{found_is_line, line_is_found}
use Rattle.ripemd_files.specs.Groups.{IsEntry, Takes}
use Rattle.ripemd_files.specs.Groups.Meaning.{names, nothing}

-- ---- what a line says

module _ (kinds : Rules) (layout : Option Layout) (text : List ℕ) (found : Option Line)
    (reads : option_map said_of found ≡ said_by (unwrap_or layout Standard) (body_of_line text)) where
  said : (variant : Variant) (digest name : List ℕ) → IsTaken kinds layout text variant digest name → Says found variant digest name
  said variant digest name taken = line_is_found (unwrap_or layout Standard) (body_of_line text) found variant digest name reads taken.is_line

  -- what was found counts
  pub is_taken : (line : Line) → found ≡ Some line → IsWanted kinds.only line.variant × (IsTrue kinds.from_input → line.name.items ≢ codes "-")
      → IsTaken kinds layout text line.variant line.digest.items line.name.items
  is_taken line some counts = record {
    is_line = rw some at (found_is_line (unwrap_or layout Standard) (body_of_line text) found reads);
    wanted = counts.0;
    other = counts.1;
  }

  -- nothing was found
  pub not_taken : found ≡ None → (variant : Variant) (digest name : List ℕ) → ¬ IsTaken kinds layout text variant digest name
  not_taken none variant digest name taken = rw none at (said variant digest name taken)

  -- what was found does not count
  pub not_counted : (line : Line) → found ≡ Some line
      → ¬ (IsWanted kinds.only line.variant × (IsTrue kinds.from_input → line.name.items ≢ codes "-"))
      → (variant : Variant) (digest name : List ℕ) → ¬ IsTaken kinds layout text variant digest name
  not_counted line some other variant digest name taken =
      let says : Says (Some line) variant digest name = rw some at (said variant digest name taken) in
      other (rw says.0 taken.wanted, rw says.2 taken.other)

-- ---- where it stands

module _ (kinds : Rules) (before after : Cursor) (text : List ℕ) (next : after.layout ≡ layout_after kinds before.layout text) where
  pub takes_skipped : IsTrue (is_passed_over text) → (lines : List Line) → Takes kinds before after text lines lines None
  takes_skipped skipped lines = record { found = []; means = rw skipped tt; grown = sym (append-nil (map names lines)); layout = next }

  module _ (counts : IsFalse (is_passed_over text)) where
    one_entry : entry_of kinds before.layout before.number text ≡ record { layout = after.layout; number = before.number; text = text } ∷ []
    one_entry = rw (next, counts) refl

    pub takes_misformatted : IsEntry kinds after.layout text None → (lines : List Line) → Takes kinds before after text lines lines (Some before.number)
    takes_misformatted entry lines =
        record { found = nothing before.number ∷ []; means = rw one_entry ((refl, entry), tt); grown = refl; layout = next }

    pub takes_said : (line : Line) → IsEntry kinds after.layout text (Some line) → (lines : List Line)
        → Takes kinds before after text lines (lines ++ line ∷ []) None
    takes_said line entry lines =
        record { found = names line ∷ []; means = rw one_entry (entry, tt); grown = map-append names lines (line ∷ []); layout = next }
