-- What is printed of files, one after another.
use Rattle.ripemd_block.proofs.Library.{◌≡◌, ℕ, List, [], ◌++◌, Bool, true, ◌&&◌, refl, sym, ap, arith, length, take, get_or, ◌+◌, ◌-◌, ◌<◌, ◌≤◌, drop, Bor, length-drop, length-map, length-take, take-map, take-take, list_all-append, AllZip-long, and_assoc, and-true, AllZip}
use Rattle.ripemd.specs.Standard.{ripemd}
use Rattle.ripemd_batch.specs.Lanes.{targets}
use Rattle.ripemd_files.specs.Types.{NoMemory, Style, Outcome}
use Rattle.ripemd_files.specs.Files.{ComesTo, OfFirst, Place, parameters_of}
use Rattle.ripemd_files.specs.Said.{TellsEach, Told}
use Rattle.ripemd_files.specs.Printing.{AllRead, IsReading, PrintsAll, PrintsFirst, Reading, items_of_reading, was_read}
use Rattle.ripemd_files.proofs.Telling.{stops_here}
use Rattle.ripemd_files.proofs.Zips.{all_zip_at}

-- whether none was read, some and others, and one
pub read_none : (all : Bool) → AllRead all [] all
read_none all = sym (and-true all)

pub read_more : (a b c : Bool) (some others : List Reading) → AllRead a some b → AllRead b others c → AllRead a (some ++ others) c
read_more a b c some others first second = rw (second, first, list_all-append, and_assoc) refl

pub read_one : (all was : Bool) (outcome : Outcome) → was ≡ was_read outcome → (all && was) ≡ (all && (was_read outcome && true))
read_one all was outcome is = rw (is, and-true) refl

-- the next of some files that were read
pub reading_at : {File : Type 0} (place : Place File) (style : Style) (names : List (List ℕ)) (outcomes : List Outcome)
    → AllZip (ComesTo place (ripemd (parameters_of style.variant))) names outcomes → (k : ℕ) (name : List ℕ) (outcome : Outcome)
    → k < length outcomes → get_or names k name ≡ name → outcome ≡ get_or outcomes k outcome
    → IsReading place style name (record { name = name; outcome = outcome })
reading_at place style names outcomes read k name outcome within is_name is_outcome = (
  refl,
  rw (is_name, ← is_outcome) at
      (all_zip_at (ComesTo place (ripemd (parameters_of style.variant))) names outcomes k name outcome read (omega (arith, within, AllZip-long _ _ _ read))),
)

-- files after others
pub prints_after : {File : Type 0} (place : Place File) (style : Style) (names : List (List ℕ)) (old new : Told) (all more : Bool)
    → PrintsAll place style names old new more
    → TellsEach (IsReading place style) (items_of_reading style) AllRead names old new all (all && more)
prints_after place style names old new all more prints =
    record { found = prints.found; each = prints.each; tells = prints.tells; counts = ap (λ b. all && b) prints.counts }

-- there is no memory for the first
pub prints_no_memory : {File : Type 0} (place : Place File) (style : Style) (names : List (List ℕ)) (old : Told) → PrintsFirst place style names old old NoMemory
prints_no_memory place style names old = record { count = 0; found = []; each = tt; stops = stops_here ⊥ old [] }

-- the first of the files from a place on
pub first_from : (R : List ℕ → Outcome → Type 0) (names : List (Bor (List ℕ))) (outcomes : List Outcome) (start count : ℕ)
    → start ≤ length names → count ≡ length outcomes → OfFirst R (targets (take (length names - start) (drop start names))) outcomes
    → (start + count ≤ length names) × AllZip R (targets (take (start + count - start) (drop start names))) outcomes
first_from R names outcomes start count le counted first =
    let within : count ≤ length names - start = omega (arith, counted, rw (length-map, length-take, length-drop) at first.within) in
    let same : start + count - start ≡ count = omega arith in (
      omega (arith, within, le),
      rw same (rw (← counted, take-map, take-take count (length names - start) (drop start names) within) at first.each),
    )
