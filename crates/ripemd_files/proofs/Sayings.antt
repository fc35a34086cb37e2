-- What a line is read as is what it is a line of, and the other way round; and so is the layout that is found.
use Rattle.ripemd_block.proofs.Library.{◌≡◌, ◌≢◌, ◌⊎◌, ℕ, ◌*◌, Bool, cond, true, false, List, [], ◌∷◌, ◌++◌, length, Option, Some, None, arith, refl, sym, ap, subst, ◌∙◌, inl, inr, eqb, option_map, IfSome, MatchBool, list_all, list_any, and_parts, nat_tests, same_Some, none-some, option_and_then_some, AllPass-from_list_all}
use Rattle.hex.specs.Hex.{is_hex_digit}
use Rattle.hex.proofs.HexLemmas.{decode_of-digits}
use Rattle.ripemd_files.specs.Types.{Variant, Layout, Standard, Reversed, Line}
use Rattle.ripemd_files.specs.Lines.{size_of, escape_of, escaped, Spells, is_blank, IsBlank, mark_of, IsLine, Says}
use Rattle.ripemd_files.specs.Reading.{skip_blanks, strip_mark, strip_label, variant_of, untagged_at, found_at, digest_at, meant_by, unescaped, name_at, ◌>>=◌, Found, Said, said_by, said_of, has_digits, is_wanted_length, layout_at, layout_of, HasLayout}
use Rattle.ripemd_files.proofs.Bodies.{skip_blanks-sound, skip_blanks-front, digits_of, starts-form, no_label, untagged_at-sound, untagged_at-form, found_at-sound, found_at-form, digest_at-sound, digest_at-digest}

-- ---- escapes

-- a byte of a name stands escaped, or as it is
read_byte : (x y byte : ℕ) (escaped plain : Option (List ℕ)) (name : List ℕ)
    → cond (eqb x 92) (meant_by y >>= λ meant. option_map (λ rest. meant ∷ rest) escaped) (option_map (λ rest. x ∷ rest) plain) ≡ Some (byte ∷ name)
    → ((x ∷ y ∷ [] ≡ escape_of byte) × (escaped ≡ Some name)) ⊎ ((byte ≢ 92) × (x ≡ byte) × (plain ≡ Some name))
read_byte x y byte escaped plain name e = grind (arith, nat_tests)

spells_from : (text name : List ℕ) → unescaped false text ≡ Some name → Spells text name
unfolding unescaped
spells_from [] [] e = refl
spells_from (x ∷ []) (byte ∷ name) e = ([], inr (grind (arith, nat_tests), grind (arith, nat_tests)), grind (arith, nat_tests))
spells_from (x ∷ y ∷ rest) (byte ∷ name) e =
    elim (read_byte x y byte (unescaped false rest) (unescaped false (y ∷ rest)) name e) [
      | inl (escapes, on) ↦ (rest, inl (rw (← escapes) refl), spells_from rest name on)
      | inr (other, same, on) ↦ (y ∷ rest, inr (other, rw same refl), spells_from (y ∷ rest) name on)
    ]
spells_from _ _ e = absurd (grind arith)

unescaped-escape : (byte : ℕ) (rest : List ℕ) → unescaped false (escape_of byte ++ rest) ≡ option_map (λ name. byte ∷ name) (unescaped false rest)
unfolding unescaped
unescaped-escape byte rest = grind (arith, nat_tests)

-- what spells a name is read as it
pub unescaped-spelled : (text name : List ℕ) → Spells text name → unescaped false text ≡ Some name
unfolding unescaped
unescaped-spelled text [] h = rw h refl
unescaped-spelled text (byte ∷ name) h = grind (arith, nat_tests, unescaped-escape byte h.0, unescaped-spelled h.0 name h.2)

-- an escaped name spells it
pub Spells-escaped : (name : List ℕ) → Spells (escaped name) name
Spells-escaped [] = refl
Spells-escaped (byte ∷ name) = (escaped name, inl refl, Spells-escaped name)

-- ---- names

pub name_at-said : (marked : Bool) (text name : List ℕ) → name_at marked text ≡ Some name
    → MatchBool marked (Spells text name) (text ≡ name) × (list_any (λ byte. eqb byte 0) name ≡ false)
unfolding name_at
name_at-said marked text name e = grind (arith, spells_from text)

pub name_at-spelled : (marked : Bool) (text name : List ℕ) → MatchBool marked (Spells text name) (text ≡ name)
    → list_any (λ byte. eqb byte 0) name ≡ false → name_at marked text ≡ Some name
unfolding name_at
name_at-spelled marked text name spelled no_zero = grind (arith, unescaped-spelled text name)

-- ---- lines

pub strip_mark-sound : (bytes : List ℕ) → bytes ≡ mark_of (strip_mark bytes).0 ++ (strip_mark bytes).1
strip_mark-sound [] = refl
strip_mark-sound (x ∷ rest) = grind (arith, nat_tests)

-- what a line says, it is a line of
pub IsLine-said : (layout : Layout) (line : List ℕ) (variant : Variant) (digest name : List ℕ)
    → said_by layout line ≡ Some (record { variant = variant; digest = digest; name = name }) → IsLine layout line variant digest name
unfolding said_by
IsLine-said layout line variant digest name e =
    let marked = strip_mark (skip_blanks line) in
    let indent = skip_blanks-sound line in
    option_and_then_some _ (found_at layout marked.1) _ e (λ found is_found e2.
    option_and_then_some _ (digest_at found.variant found.digits) _ e2 (λ digest is_digest e3.
    option_and_then_some _ (name_at marked.0 found.text) _ e3 (λ name is_name e4.
    let spelled = name_at-said marked.0 found.text name is_name in
    subst (λ (s : Said). IsLine layout line s.variant s.digest s.name) (same_Some _ _ e4)
    record {
      indent = indent.0;
      marked = marked.0;
      body = marked.1;
      digits = found.digits;
      text = found.text;
      is_indent = indent.1;
      whole = indent.2 ∙ ap (λ (back : List ℕ). indent.0 ++ back) (strip_mark-sound (skip_blanks line));
      form = found_at-sound layout marked.1 found is_found;
      is_digest = digest_at-sound found.variant found.digits digest is_digest;
      spelled = spelled.0;
      no_zero = spelled.1;
    })))

-- after the blanks stand the mark and the body
pub marked-front : (indent : List ℕ) (marked : Bool) (body : List ℕ) → IsBlank indent
    → (x : ℕ) × (rest : List ℕ) × (body ≡ x ∷ rest) × (is_blank x ≡ false) × (eqb x 92 ≡ false) × (eqb x 35 ≡ false)
    → strip_mark (skip_blanks (indent ++ (mark_of marked ++ body))) ≡ (marked, body)
marked-front indent marked body blank (x, rest, is, other, no_mark, no_comment) = grind (arith, nat_tests, skip_blanks-front indent)

-- a line has this mark and this body
pub marked_body : (layout : Layout) (line : List ℕ) (variant : Variant) (digest name : List ℕ) → (h : IsLine layout line variant digest name)
    → strip_mark (skip_blanks line) ≡ (h.marked, h.body)
marked_body layout line variant digest name h =
    grind (arith, h.whole, marked-front h.indent h.marked h.body h.is_indent (starts-form layout h.body variant h.digits digest h.text h.form h.is_digest))

-- what it is a line of, it says
pub said_by-line : (layout : Layout) (line : List ℕ) (variant : Variant) (digest name : List ℕ) → IsLine layout line variant digest name
    → said_by layout line ≡ Some (record { variant = variant; digest = digest; name = name })
unfolding said_by
said_by-line layout line variant digest name h =
    grind (arith, marked_body layout line variant digest name h, found_at-form layout h.body variant h.digits digest h.text h.form h.is_digest, digest_at-digest variant h.digits digest h.is_digest, name_at-spelled h.marked h.text name h.spelled h.no_zero)

-- what says nothing is no line
pub no_line : (layout : Layout) (line : List ℕ) → said_by layout line ≡ None → (variant : Variant) (digest name : List ℕ) → ¬ IsLine layout line variant digest name
no_line layout line none variant digest name h = none-some _ (sym none ∙ said_by-line layout line variant digest name h)

-- a line says one thing
pub one_line : (layout : Layout) (line : List ℕ) (variant other : Variant) (digest other_digest name other_name : List ℕ)
    → IsLine layout line variant digest name → IsLine layout line other other_digest other_name → (variant ≡ other) × (digest ≡ other_digest) × (name ≡ other_name)
one_line layout line variant other digest other_digest name other_name h k =
    grind (arith, said_by-line layout line variant digest name h, said_by-line layout line other other_digest other_name k)

-- ---- what the code finds

-- if what was found is what the line says, the line is one of it
pub found_is_line : (layout : Layout) (line : List ℕ) (found : Option Line) → option_map said_of found ≡ said_by layout line
    → IfSome found (λ l. IsLine layout line l.variant l.digest.items l.name.items)
found_is_line layout line found e = grind (arith, IsLine-said layout line)

-- and what it is a line of was found
pub line_is_found : (layout : Layout) (line : List ℕ) (found : Option Line) (variant : Variant) (digest name : List ℕ) → option_map said_of found ≡ said_by layout line
    → IsLine layout line variant digest name → Says found variant digest name
line_is_found layout line found variant digest name e h = grind (arith, said_by-line layout line variant digest name h)

-- ---- the layout of a line

variant_of-count : (count : ℕ) (variant : Variant) → variant_of count ≡ Some variant → count ≡ 2 * size_of variant
variant_of-count count variant e = grind (arith, nat_tests)

-- a body that is untagged has the layout
has_layout : (only : Option Variant) (layout : Layout) (line : List ℕ) (found : Option Found)
    → untagged_at layout (strip_mark (skip_blanks line)).1 ≡ found → has_digits only found ≡ true → HasLayout only layout line
has_layout only layout line None is has = absurd cc
has_layout only layout line (Some found) is has =
    let marked = strip_mark (skip_blanks line) in
    let indent = skip_blanks-sound line in
    let parts = and_parts (is_wanted_length only (length found.digits)) (list_all is_hex_digit found.digits) has in
    let (form, variant) = untagged_at-sound layout marked.1 found is in
    let wanted : IfSome only (λ one. one ≡ found.variant) = grind (arith, nat_tests) in
    let twice = variant_of-count _ _ variant in
    let (digest, decoded) = decode_of-digits found.digits (omega (arith, twice)) (AllPass-from_list_all is_hex_digit found.digits parts.1) in
    record {
      indent = indent.0;
      marked = marked.0;
      body = marked.1;
      variant = found.variant;
      digits = found.digits;
      digest = digest;
      text = found.text;
      is_indent = indent.1;
      whole = indent.2 ∙ ap (λ (back : List ℕ). indent.0 ++ back) (strip_mark-sound (skip_blanks line));
      form = form;
      is_digest = record { twice = twice; bytes = decoded };
      counted = wanted;
    }

pub layout_of-found : (only : Option Variant) (layout : Layout) (line : List ℕ) → layout_of only line ≡ Some layout → HasLayout only layout line
unfolding layout_at
layout_of-found only layout line e =
    grind (arith, has_layout only Standard line _ refl, has_layout only Reversed line _ refl)

module _ {only : Option Variant} {layout : Layout} {line : List ℕ} (h : HasLayout only layout line) where
  body_found : (strip_mark (skip_blanks line)).1 ≡ h.body
  body_found =
      let starts = starts-form layout h.body h.variant h.digits h.digest h.text (inl h.form) h.is_digest in
      grind (arith, h.whole, marked-front h.indent h.marked h.body h.is_indent starts)

  no_label_found : strip_label (strip_mark (skip_blanks line)).1 ≡ None
  no_label_found = ap strip_label body_found ∙ no_label layout h.body h.variant h.digits h.digest h.text h.form h.is_digest

  digits_found : has_digits only (untagged_at layout (strip_mark (skip_blanks line)).1) ≡ true
  digits_found =
      grind (arith, body_found, untagged_at-form layout h.body h.variant h.digits h.digest h.text h.form h.is_digest, nat_tests, h.counted, h.is_digest.twice, digits_of h.variant h.digits h.digest h.is_digest)

pub layout_of-standard : (only : Option Variant) (line : List ℕ) → HasLayout only Standard line → layout_of only line ≡ Some Standard
unfolding layout_at
layout_of-standard only line h = grind (arith, no_label_found h, digits_found h)

pub layout_of-reversed : (only : Option Variant) (line : List ℕ) → HasLayout only Reversed line → ¬ HasLayout only Standard line
    → layout_of only line ≡ Some Reversed
unfolding layout_at
layout_of-reversed only line h other = grind (arith, no_label_found h, digits_found h, has_layout only Standard line _ refl)

pub ruleset finding = (layout_of-found, layout_of-standard, layout_of-reversed)
