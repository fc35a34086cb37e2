-- A line that is written is a line of its digest and its name. What stands in no line: an end, in a line that is written, and
-- the sign of a comment at the front of any line.
use Rattle.ripemd_block.proofs.Library.{◌≡◌, ◌≢◌, ◌⊎◌, ℕ, ◌*◌, ◌≤◌, Bool, true, false, List, [], ◌∷◌, ◌++◌, arith, refl, ap, ◌∙◌, inl, inr, codes, eqb, list_any, nat_tests, list_any-append}
use Rattle.hex.specs.Hex.{encode_lower, lower_digits, is_hex_digit}
use Rattle.hex.proofs.HexLemmas.{length-encode_with, decode_of-encode_lower}
use Rattle.ripemd_files.specs.Types.{Variant, Form, Text, Binary, Tagged, Ending, Newline, Zero, Layout, Standard, Reversed}
use Rattle.ripemd_files.specs.Lines.{label_of, is_special, is_end, IsBlank, escaped, mark_of, text_of, body_of, line_of, is_marked, IsDigest, IsUntagged, IsTagged, IsLine, IsReadable, RoundTrips}
use Rattle.ripemd_files.proofs.Bodies.{AreDigits, lacks_where, digits_of, starts-form}
use Rattle.ripemd_files.proofs.Sayings.{Spells-escaped}

pub IsDigest-written : (layout : Layout) (form : Form) (variant : Variant) (digest name : List ℕ) → RoundTrips layout form variant digest name
    → IsDigest variant (encode_lower digest) digest
IsDigest-written layout form variant digest name can = record {
  twice = length-encode_with lower_digits digest ∙ ap (λ (n : ℕ). 2 * n) can.size;
  bytes = decode_of-encode_lower digest can.bytes;
}

-- the text of a name that is not empty is not
text_of-named : (marked : Bool) (name : List ℕ) → name ≢ [] → text_of marked name ≢ []
text_of-named marked [] named none = named refl
text_of-named marked (byte ∷ name) named none = grind (arith, nat_tests)

untagged : (kind : ℕ) → (kind ≡ 32) ⊎ (kind ≡ 42) → (digits : List ℕ) (marked : Bool) (name : List ℕ) → name ≢ []
    → IsUntagged Standard (digits ++ (32 ∷ kind ∷ text_of marked name)) digits (text_of marked name)
untagged kind is digits marked name named =
    record {
      separator = 32 ∷ kind ∷ [];
      is_separator = (32, kind, refl, is, refl);
      named = text_of-named marked name named;
      whole = refl;
    }

form-written : (layout : Layout) (form : Form) (variant : Variant) (digits : List ℕ) (marked : Bool) (name : List ℕ) → IsReadable layout form name
    → IsUntagged layout (body_of form variant digits (text_of marked name)) digits (text_of marked name)
    ⊎ IsTagged (body_of form variant digits (text_of marked name)) variant digits (text_of marked name)
form-written Standard Text variant digits marked name named = inl (untagged 32 (inl refl) digits marked name named)
form-written Standard Binary variant digits marked name named = inl (untagged 42 (inr refl) digits marked name named)
form-written layout Tagged variant digits marked name named =
    inr record {
      label = label_of variant;
      space = codes " ";
      before = codes " ";
      after = codes " ";
      is_label = inl refl;
      is_space = inr refl;
      is_before = refl;
      is_after = refl;
      whole = refl;
    }
form-written Reversed _ variant digits marked name named = absurd named

pub IsLine-line_of : (layout : Layout) (ending : Ending) (form : Form) (variant : Variant) (digest name : List ℕ) → RoundTrips layout form variant digest name
    → IsLine layout (line_of ending form variant digest name) variant digest name
IsLine-line_of layout ending form variant digest name can =
    let marked = is_marked ending name in
    let text = text_of marked name in
    record {
      indent = [];
      marked = marked;
      body = body_of form variant (encode_lower digest) text;
      digits = encode_lower digest;
      text = text;
      is_indent = refl;
      whole = refl;
      form = form-written layout form variant (encode_lower digest) marked name can.readable;
      is_digest = IsDigest-written layout form variant digest name can;
      spelled = grind (arith, Spells-escaped name);
      no_zero = can.no_zero;
    }

pub ruleset writing = (IsLine-line_of)

-- ---- ends

-- no byte of a text passes a test
abbrev Lacks : (ℕ → Bool) → List ℕ → Type 0
Lacks test text = list_any test text ≡ false

-- beside the name a line has bytes from the space on, which a test of ends refuses
Lacks-body : (test : ℕ → Bool) → ((x : ℕ) → 32 ≤ x → test x ≡ false) → (form : Form) (variant : Variant) (digits text : List ℕ) → AreDigits digits
    → Lacks test text → Lacks test (body_of form variant digits text)
Lacks-body test foreign form variant digits text are lacks =
    grind (arith, list_any-append, foreign, lacks_where test is_hex_digit (λ x is. foreign x (grind (arith, nat_tests))) digits are)

abbrev is_zero : ℕ → Bool
is_zero byte = eqb byte 0

-- ---- names

-- a name in which nothing is escaped has no end
Lacks-plain : (name : List ℕ) → Lacks is_special name → Lacks is_zero name → Lacks is_end name
Lacks-plain [] special zero = refl
Lacks-plain (x ∷ name) special zero = grind (arith, nat_tests, Lacks-plain name)

-- an escaped name has none
Lacks-escaped : (name : List ℕ) → Lacks is_zero name → Lacks is_end (escaped name)
Lacks-escaped [] zero = refl
Lacks-escaped (x ∷ name) zero = grind (arith, nat_tests, list_any-append, Lacks-escaped name)

-- ---- lines

pub no_end : (layout : Layout) (form : Form) (variant : Variant) (digest name : List ℕ) → RoundTrips layout form variant digest name
    → Lacks is_end (line_of Newline form variant digest name)
no_end layout form variant digest name h =
    let digits = digits_of variant (encode_lower digest) digest (IsDigest-written layout form variant digest name h) in
    let body = Lacks-body is_end (λ x is. grind (arith, nat_tests)) form variant (encode_lower digest) (text_of (list_any is_special name) name) digits in
    grind (arith, nat_tests, list_any-append, body, Lacks-escaped name h.no_zero, Lacks-plain name)

pub no_zero : (layout : Layout) (form : Form) (variant : Variant) (digest name : List ℕ) → RoundTrips layout form variant digest name
    → Lacks is_zero (line_of Zero form variant digest name)
no_zero layout form variant digest name h =
    let are = digits_of variant (encode_lower digest) digest (IsDigest-written layout form variant digest name h) in
    Lacks-body is_zero (λ x is. grind (arith, nat_tests)) form variant (encode_lower digest) name are h.no_zero

-- a line begins with a byte that is no sign of a comment
first_of : (indent : List ℕ) (marked : Bool) (x : ℕ) (rest : List ℕ) → IsBlank indent → eqb x 35 ≡ false
    → (first : ℕ) × (others : List ℕ) × (indent ++ (mark_of marked ++ (x ∷ rest)) ≡ first ∷ others) × (eqb first 35 ≡ false)
first_of [] true x rest blank other = (92, x ∷ rest, refl, refl)
first_of [] false x rest blank other = (x, rest, refl, other)
first_of (b ∷ indent) marked x rest blank other = (b, indent ++ (mark_of marked ++ (x ∷ rest)), refl, grind (arith, nat_tests))

pub starts_line : (layout : Layout) (line : List ℕ) (variant : Variant) (digest name : List ℕ) → IsLine layout line variant digest name
    → (first : ℕ) × (others : List ℕ) × (line ≡ first ∷ others) × (first ≢ 35)
starts_line layout line variant digest name h =
    let (x, rest, whole, other, no_mark, no_sign) = starts-form layout h.body variant h.digits digest h.text h.form h.is_digest in
    let (first, others, front, is) = first_of h.indent h.marked x rest h.is_indent no_sign in
    (first, others, grind (arith, h.whole, whole, front), grind (arith, nat_tests, is))
