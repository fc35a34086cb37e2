-- Lines that were printed, and are checked.
use Rattle.ripemd_block.proofs.Library.{rules, ◌≡◌, ◌≢◌, ℕ, Bool, false, List, [], ◌∷◌, length, Option, None, unwrap_or, refl, sym, subst, ◌∙◌, arith, ◌↔◌, ◌⊎◌, IsNone, IsSomeAnd, MatchOption, list_any, nat_tests, bytes_eq-Decides, list_any_at}
use Rattle.ripemd.specs.Standard.{ripemd}
use Rattle.ripemd_files.specs.Types.{Form, Layout, Standard, Newline, Variant, Rules, Outcome, Digest, Verdict, Differs, Matches}
use Rattle.ripemd_files.specs.Lines.{IsLine, RoundTrips, is_end}
use Rattle.ripemd_files.specs.Files.{ComesTo, Gives, Place, parameters_of}
use Rattle.ripemd_files.specs.Checking.{checked, verdict_of}
use Rattle.ripemd_files.specs.Lists.{IsEventOn, IsTaken, body_of_line}
use Rattle.ripemd_files.specs.Printing.{IsPrinted, printed_line}
use Rattle.ripemd_files.proofs.Written.{IsLine-line_of, no_end}
use Rattle.ripemd_files.proofs.Sayings.{one_line}
use Rattle.ripemd_files.proofs.Sizes.{bytes-ripemd, length-ripemd}

-- a line without the bytes that end lines has no carriage return at its end
whole_line : (line : List ℕ) → list_any is_end line ≡ false → body_of_line line ≡ line
whole_line [] lacks = refl
whole_line (x ∷ rest) lacks = grind (arith, nat_tests, list_any_at is_end (x ∷ rest) (length rest) 0)

-- what came of a file whose verdict is this
module _ {File : Type 0} (place : Place File) (hash : List ℕ → List ℕ) (name digest message : List ℕ) (same : digest ≡ hash message)
    (ignore_missing : Bool) where
  not_different : (outcome : Outcome) → ComesTo place hash name outcome
      → ((given : List ℕ) → Gives (place.opens name) place.left given → given ≡ message) → verdict_of ignore_missing digest outcome ≢ Differs
  not_different (Digest d) comes gave is = grind (arith, (bytes_eq-Decides d.items digest).1, gave comes.0 comes.1, comes.2)
  not_different _ comes gave is = absurd (grind arith)

  same_digest : (outcome : Outcome) → ComesTo place hash name outcome → verdict_of ignore_missing digest outcome ≡ Matches
      → (given : List ℕ) × Gives (place.opens name) place.left given × (hash given ≡ hash message)
  same_digest (Digest d) comes is =
      (comes.0, comes.1, grind (arith, (bytes_eq-Decides d.items digest).0, comes.2, same, is))
  same_digest _ comes is = absurd (grind arith)

module _ (kinds : Rules) (layout : Option Layout) (form : Form) (variant : Variant) (message name : List ℕ)
    (printed : IsPrinted kinds layout form variant name) where
  abbrev line : List ℕ
  line = printed_line form variant message name

  abbrev digest : List ℕ
  digest = ripemd (parameters_of variant) message

  round_trips : RoundTrips (unwrap_or layout Standard) form variant digest name
  round_trips = record {
    size = length-ripemd variant message;
    bytes = bytes-ripemd variant message;
    readable = printed.readable;
    no_zero = printed.no_zero;
  }

  -- the line has no end in it
  whole : body_of_line line ≡ line
  whole = whole_line line (no_end (unwrap_or layout Standard) form variant digest name round_trips)

  is_line : IsLine (unwrap_or layout Standard) line variant digest name
  is_line = IsLine-line_of (unwrap_or layout Standard) Newline form variant digest name round_trips

  -- the line counts
  pub printed_is_taken : IsTaken kinds layout line variant digest name
  printed_is_taken = record {
    is_line = subst (λ b. IsLine (unwrap_or layout Standard) b variant digest name) (sym whole) is_line;
    wanted = printed.wanted;
    other = printed.other;
  }

  module _ {File : Type 0} (place : Place File) (ignore_missing : Bool) (number : ℕ) (found : List ℕ) (verdict : Verdict)
      (event : IsEventOn place ignore_missing kinds layout number line (checked found verdict)) where
    -- it is what the event is about
    same_line : (event.0 ≡ variant) × (event.1 ≡ digest) × (found ≡ name)
    same_line =
        one_line (unwrap_or layout Standard) (body_of_line line) event.0 variant event.1 digest found name event.3.is_line printed_is_taken.is_line

    -- reading its file came to this
    came_to : ComesTo place (ripemd (parameters_of variant)) name event.2
    came_to = rw (same_line.2, same_line.0) at event.4

    is_verdict : verdict ≡ verdict_of ignore_missing digest event.2
    is_verdict = rw same_line.1 at event.5

    pub no_difference : ((given : List ℕ) → Gives (place.opens name) place.left given → given ≡ message) → (found ≡ name) × (verdict ≢ Differs)
    no_difference gave = (
      same_line.2,
      λ differs. not_different place (ripemd (parameters_of variant)) name digest message refl ignore_missing event.2 came_to gave (sym is_verdict ∙ differs),
    )

    pub match_gives : verdict ≡ Matches
        → (given : List ℕ) × Gives (place.opens name) place.left given × (ripemd (parameters_of variant) given ≡ digest)
    match_gives matches =
        same_digest place (ripemd (parameters_of variant)) name digest message refl ignore_missing event.2 came_to (sym is_verdict ∙ matches)

-- a file that gives no other message matches, and there is no collision: it gave the printed one
pub equal_messages : {File S T : Type 0} (place : Place File) (variant one : Variant) (message given : List ℕ) (wrap : S → T) (collision : Option S)
    (answer : Option T) → variant ≡ one
    → IsNone collision ↔ ((message ≡ given) ⊎ (ripemd (parameters_of one) message ≢ ripemd (parameters_of one) given))
    → MatchOption collision (answer ≡ None) (λ c. IsSomeAnd answer (λ m. m ≡ wrap c)) → (rules : Rules) (layout : Option Layout) (form : Form)
    (name found : List ℕ) (ignore_missing : Bool) (number : ℕ) → IsPrinted rules layout form variant name
    → IsEventOn place ignore_missing rules layout number (printed_line form variant message name) (checked found Matches)
    → ((m : List ℕ) → Gives (place.opens name) place.left m → m ≡ given) → IsNone answer → message ≡ given
equal_messages place variant one message given wrap collision answer is none cases rules layout form name found ignore_missing number printed event gave nothing =
    let gives = match_gives rules layout form variant message name printed place ignore_missing number found _ event refl in
    grind (arith, none.0, cases, nothing, is, gives.2, gave gives.0 gives.1)

pub ruleset digests = (length-ripemd, bytes-ripemd)
