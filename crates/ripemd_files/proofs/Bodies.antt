-- The forms of a line: what is read of a body has one of them, and what has one of them is read.
use Rattle.ripemd_block.proofs.Library.{◌≡◌, ◌≢◌, ◌⊎◌, ℕ, ◌*◌, Bool, true, false, List, [], ◌∷◌, ◌++◌, length, get_or, take, Option, Some, None, refl, ap, subst, ◌∙◌, inl, inr, eqb, arith, option_map, codes, IsTrue, take-append-drop, list_any, list_all, cases_Bool, eqb_tells, nat_tests, list_any-append, list_all-from_AllPass, bytes_eq-Decides, same_Some, option_and_then_some, option_or}
use Rattle.hex.specs.Hex.{is_hex_digit}
use Rattle.hex.proofs.HexLemmas.{decode_of-ok}
use Rattle.ripemd_files.specs.Types.{Variant, R128, R160, R256, R320, Layout, Standard, Reversed}
use Rattle.ripemd_files.specs.Lines.{size_of, bits_of, IsLabel, is_blank, IsBlank, IsDigest, IsSeparator, IsUntagged, IsTagged}
use Rattle.ripemd_files.specs.Reading.{strip, skip_blanks, split_blank, split_close, variant_of, strip_bits, strip_label, Found, text_at, untagged_at, skip_space, tagged_at, either_at, found_at, digest_at}

-- ---- prefixes

-- what follows a prefix
pub strip-sound : (prefix bytes rest : List ℕ) → strip prefix bytes ≡ Some rest → bytes ≡ prefix ++ rest
strip-sound prefix bytes rest e = grind (arith, (bytes_eq-Decides (take (length prefix) bytes) prefix).0, take-append-drop (length prefix) bytes)

-- the blanks that were skipped
pub skip_blanks-sound : (bytes : List ℕ) → (blanks : List ℕ) × IsBlank blanks × (bytes ≡ blanks ++ skip_blanks bytes)
unfolding skip_blanks
skip_blanks-sound [] = ([], refl, refl)
skip_blanks-sound (x ∷ rest) =
    let tail = skip_blanks-sound rest in
    elim (cases_Bool (is_blank x)) [ inl is ↦ (x ∷ tail.0, grind arith, grind arith) | inr is ↦ ([], refl, rw is refl) ]

-- blanks are skipped up to a byte that is none
pub skip_blanks-front : (blanks : List ℕ) (x : ℕ) (rest : List ℕ) → IsBlank blanks → is_blank x ≡ false
    → skip_blanks (blanks ++ (x ∷ rest)) ≡ x ∷ rest
unfolding skip_blanks
skip_blanks-front [] x rest h other = rw other refl
skip_blanks-front (b ∷ blanks) x rest h other = grind (arith, skip_blanks-front blanks x rest)

-- ---- parts of a body

first_of : {A P : Type 0} (a b : Option A) (y : A) → option_or a b ≡ Some y → (a ≡ Some y → P) → (b ≡ Some y → P) → P
first_of (Some x) b y e here there = here e
first_of None b y e here there = there e

pub split_blank-sound : (bytes before rest : List ℕ) → split_blank bytes ≡ Some (before, rest)
    → IsTrue (is_blank (get_or bytes (length before) 0)) × (bytes ≡ before ++ (get_or bytes (length before) 0 ∷ rest))
unfolding split_blank
split_blank-sound [] before rest e = absurd cc
split_blank-sound (x ∷ bytes) [] rest e = grind arith
split_blank-sound (x ∷ bytes) (b ∷ before) rest e = grind (arith, split_blank-sound bytes before rest)

pub split_close-sound : (bytes before rest : List ℕ) → split_close bytes ≡ Some (before, rest) → bytes ≡ before ++ (41 ∷ rest)
unfolding split_close
split_close-sound [] before rest e = absurd cc
split_close-sound (x ∷ bytes) before rest e = grind (arith, nat_tests, split_close-sound bytes)

-- where each byte passes one test, and those fail another, none passes that
pub lacks_where : (test other : ℕ → Bool) → ((x : ℕ) → other x ≡ true → test x ≡ false) → (text : List ℕ) → list_all other text ≡ true
    → list_any test text ≡ false
lacks_where test other fails [] all = refl
lacks_where test other fails (x ∷ text) all = grind (arith, fails x, lacks_where test other fails text)

-- digits, one after the other
abbrev pub AreDigits : List ℕ → Type 0
AreDigits digits = list_all is_hex_digit digits ≡ true

pub digits_of : (variant : Variant) (digits digest : List ℕ) → IsDigest variant digits digest → AreDigits digits
digits_of variant digits digest h = list_all-from_AllPass is_hex_digit digits (decode_of-ok digits digest h.bytes).1

pub split_blank-front : (digits : List ℕ) (blank : ℕ) (rest : List ℕ) → AreDigits digits → is_blank blank ≡ true
    → split_blank (digits ++ (blank ∷ rest)) ≡ Some (digits, rest)
unfolding split_blank
split_blank-front [] blank rest h is = rw is refl
split_blank-front (x ∷ digits) blank rest h is = grind (arith, nat_tests, split_blank-front digits blank rest)

-- whether a parenthesis closes in a text
abbrev closes : List ℕ → Bool
closes text = list_any (λ x. eqb x 41) text

split_close-none : (text : List ℕ) → closes text ≡ false → split_close text ≡ None
unfolding split_close
split_close-none [] h = refl
split_close-none (x ∷ text) h = grind (arith, nat_tests, split_close-none text)

-- the last parenthesis stands in front of what has none
pub split_close-front : (text rest : List ℕ) → closes rest ≡ false → split_close (text ++ (41 ∷ rest)) ≡ Some (text, rest)
unfolding split_close
split_close-front [] rest h = rw (split_close-none rest h) refl
split_close-front (x ∷ text) rest h = grind (arith, split_close-front text rest)

-- what follows the name of a tagged line has none
closes-behind : (before after digits : List ℕ) → IsBlank before → IsBlank after → AreDigits digits
    → closes (before ++ (61 ∷ (after ++ digits))) ≡ false
closes-behind before after digits is_before is_after are =
    let blanks = λ (text : List ℕ) (are : IsBlank text). lacks_where (λ x. eqb x 41) is_blank (λ x is. grind (arith, nat_tests)) text are in
    grind (arith, list_any-append, blanks before is_before, blanks after is_after, lacks_where (λ x. eqb x 41) is_hex_digit (λ x is. grind (arith, nat_tests)) digits are)

-- ---- tags

bits_sound : (v variant : Variant) (bytes rest : List ℕ) → option_map {U = Variant × List ℕ} (λ rest. (v, rest)) (strip (bits_of v) bytes) ≡ Some (variant, rest)
    → bytes ≡ bits_of variant ++ rest
bits_sound v variant bytes rest e = grind (arith, strip-sound (bits_of v) bytes)

strip_bits-sound : (bytes : List ℕ) (variant : Variant) (rest : List ℕ) → strip_bits bytes ≡ Some (variant, rest) → bytes ≡ bits_of variant ++ rest
strip_bits-sound bytes variant rest e =
    first_of (option_map (λ rest. (R128, rest)) (strip (codes "128") bytes)) _ (variant, rest) e (bits_sound R128 variant bytes rest) (λ e.
    first_of (option_map (λ rest. (R160, rest)) (strip (codes "160") bytes)) _ (variant, rest) e (bits_sound R160 variant bytes rest) (λ e.
    first_of (option_map (λ rest. (R256, rest)) (strip (codes "256") bytes)) _ (variant, rest) e (bits_sound R256 variant bytes rest)
    (bits_sound R320 variant bytes rest)))

pub strip_label-sound : (bytes : List ℕ) (variant : Variant) (rest : List ℕ) → strip_label bytes ≡ Some (variant, rest)
    → (label : List ℕ) × IsLabel variant label × (bytes ≡ label ++ rest)
unfolding strip_label
strip_label-sound bytes variant rest e =
    option_and_then_some strip_bits _ (variant, rest) e (λ after word is.
    let bits = strip_bits-sound after variant rest is in
    let whole = λ (front : List ℕ) (e : strip front bytes ≡ Some after).
    strip-sound front bytes after e ∙ ap (λ (back : List ℕ). front ++ back) bits in
    first_of (strip (codes "RMD") bytes) _ after word (λ e. (codes "RMD" ++ bits_of variant, inl refl, whole (codes "RMD") e)) (λ e.
    first_of (strip (codes "RIPEMD-") bytes) _ after e (λ e. (codes "RIPEMD-" ++ bits_of variant, inr (inl refl), whole (codes "RIPEMD-") e)) (λ e.
    (codes "RIPEMD" ++ bits_of variant, inr (inr refl), whole (codes "RIPEMD") e))))

pub strip_label-label : (variant : Variant) (label rest : List ℕ) → IsLabel variant label → strip_label (label ++ rest) ≡ Some (variant, rest)
unfolding strip_label
strip_label-label _ label rest is = grind arith

-- ---- digests

pub digest_at-sound : (variant : Variant) (digits digest : List ℕ) → digest_at variant digits ≡ Some digest → IsDigest variant digits digest
unfolding digest_at
digest_at-sound variant digits digest e = grind (arith, nat_tests)

pub digest_at-digest : (variant : Variant) (digits digest : List ℕ) → IsDigest variant digits digest → digest_at variant digits ≡ Some digest
unfolding digest_at
digest_at-digest variant digits digest h = grind (arith, nat_tests)

-- ---- the untagged form

text_at-sound : (layout : Layout) (blank : ℕ) (rest text : List ℕ) → IsTrue (is_blank blank) → text_at layout rest ≡ Some text
    → (separator : List ℕ) × IsSeparator layout separator × (text ≢ []) × (blank ∷ rest ≡ separator ++ text)
text_at-sound Standard blank (kind ∷ first ∷ others) text is e = (blank ∷ kind ∷ [], grind (arith, nat_tests), grind arith, grind arith)
text_at-sound Reversed blank (first ∷ others) text is e = (blank ∷ [], (blank, is, refl), grind arith, grind arith)
text_at-sound _ _ _ text is e = absurd cc

pub untagged_at-sound : (layout : Layout) (body : List ℕ) (found : Found) → untagged_at layout body ≡ Some found
    → IsUntagged layout body found.digits found.text × (variant_of (length found.digits) ≡ Some found.variant)
unfolding untagged_at
untagged_at-sound layout body found e =
    option_and_then_some _ (split_blank body) found e (λ parts split e2.
    option_and_then_some _ (variant_of (length parts.0)) found e2 (λ variant is e3.
    option_and_then_some _ (text_at layout parts.1) found e3 (λ text named e4.
    let (is_blank, whole) = split_blank-sound body parts.0 parts.1 split in
    let (separator, is_separator, some, spaced) = text_at-sound layout _ parts.1 text is_blank named in
    let form : IsUntagged layout body parts.0 text =
    record { separator = separator; is_separator = is_separator; named = some; whole = whole ∙ ap (λ (back : List ℕ). parts.0 ++ back) spaced } in
    subst (λ (f : Found). IsUntagged layout body f.digits f.text × (variant_of (length f.digits) ≡ Some f.variant)) (same_Some _ _ e4) (form, is))))

pub variant_of-size : (variant : Variant) (count : ℕ) → count ≡ 2 * size_of variant → variant_of count ≡ Some variant
variant_of-size variant count e = grind arith

-- after the blank of a separator the text is found
text_at-separator : (layout : Layout) (separator text : List ℕ) → IsSeparator layout separator → text ≢ []
    → (blank : ℕ) × (rest : List ℕ) × IsTrue (is_blank blank) × (separator ++ text ≡ blank ∷ rest) × (text_at layout rest ≡ Some text)
text_at-separator layout separator [] is some = absurd (some refl)
text_at-separator Standard separator (first ∷ others) is some = (is.0, is.1 ∷ first ∷ others, is.2, grind arith, grind arith)
text_at-separator Reversed separator (first ∷ others) is some = (is.0, first ∷ others, is.1, grind arith, refl)

-- what is found in a body
abbrev pub found : Variant → List ℕ → List ℕ → Option Found
found variant digits text = Some (record { variant = variant; digits = digits; text = text })

pub untagged_at-form : (layout : Layout) (body : List ℕ) (variant : Variant) (digits digest text : List ℕ) → IsUntagged layout body digits text
    → IsDigest variant digits digest → untagged_at layout body ≡ found variant digits text
unfolding untagged_at
untagged_at-form layout body variant digits digest text form is =
    grind (arith, form.whole, text_at-separator layout form.separator text form.is_separator form.named, split_blank-front digits, digits_of variant digits digest is, variant_of-size variant (length digits) is.twice)

-- ---- the tagged form

skip_space-sound : (bytes : List ℕ) → (space : List ℕ) × ((space ≡ []) ⊎ (space ≡ codes " ")) × (bytes ≡ space ++ skip_space bytes)
skip_space-sound [] = ([], inl refl, refl)
skip_space-sound (x ∷ rest) =
    elim (eqb_tells x 32) [ inl is ↦ (codes " ", inr refl, rw (is.1) refl) | inr other ↦ ([], inl refl, rw other.0 refl) ]

pub tagged_at-sound : (body label rest : List ℕ) (variant : Variant) (found : Found) → IsLabel variant label → body ≡ label ++ rest
    → tagged_at variant rest ≡ Some found → IsTagged body found.variant found.digits found.text
unfolding tagged_at
tagged_at-sound body label rest variant found is_label whole e =
    option_and_then_some _ (strip (codes "(") (skip_space rest)) found e (λ inner opens e2.
    option_and_then_some _ (split_close inner) found e2 (λ parts split e3.
    option_and_then_some _ (strip (codes "=") (skip_blanks parts.1)) found e3 (λ digits equals e4.
    let (space, is_space, spaced) = skip_space-sound rest in
    let (before, is_before, behind) = skip_blanks-sound parts.1 in
    let (after, is_after, back) = skip_blanks-sound digits in
    subst (λ (f : Found). IsTagged body f.variant f.digits f.text) (same_Some _ _ e4)
    record {
      label = label;
      space = space;
      before = before;
      after = after;
      is_label = is_label;
      is_space = is_space;
      is_before = is_before;
      is_after = is_after;
      whole = grind (arith, strip-sound (codes "(") (skip_space rest) inner opens, split_close-sound inner parts.0 parts.1 split, strip-sound (codes "=") (skip_blanks parts.1) digits equals);
    })))

-- the digits of a digest, with the first apart
pub starts : (variant : Variant) (digits digest : List ℕ) → IsDigest variant digits digest
    → (x : ℕ) × (others : List ℕ) × (digits ≡ x ∷ others) × (is_hex_digit x ≡ true)
starts variant [] digest is = absurd (grind (arith, is.twice))
starts variant (x ∷ others) digest is = (x, others, refl, grind (arith, digits_of variant (x ∷ others) digest is))

skip_blanks-digits : (blanks : List ℕ) (variant : Variant) (digits digest : List ℕ) → IsBlank blanks → IsDigest variant digits digest
    → skip_blanks (blanks ++ digits) ≡ digits
skip_blanks-digits blanks variant digits digest blank is = grind (arith, starts variant digits digest, skip_blanks-front blanks, nat_tests)

pub tagged_at-form : (variant : Variant) (space text before after digits digest : List ℕ) → (space ≡ []) ⊎ (space ≡ codes " ")
    → IsBlank before → IsBlank after → IsDigest variant digits digest
    → tagged_at variant (space ++ (codes "(" ++ (text ++ (codes ")" ++ (before ++ (codes "=" ++ (after ++ digits))))))) ≡ found variant digits text
unfolding tagged_at
tagged_at-form variant space text before after digits digest is_space is_before is_after is =
    grind (arith, split_close-front, closes-behind before after digits, skip_blanks-front, skip_blanks-digits after variant digits digest, digits_of variant digits digest)

-- a body that begins with digits has no label
pub no_label : (layout : Layout) (body : List ℕ) (variant : Variant) (digits digest text : List ℕ) → IsUntagged layout body digits text
    → IsDigest variant digits digest → strip_label body ≡ None
unfolding strip_label
no_label layout body variant digits digest text form is = grind (arith, nat_tests, starts variant digits digest is)

-- ---- either

pub found_at-sound : (layout : Layout) (body : List ℕ) (f : Found) → found_at layout body ≡ Some f
    → IsUntagged layout body f.digits f.text ⊎ IsTagged body f.variant f.digits f.text
unfolding found_at
found_at-sound layout body f e = go (strip_label body) refl e
  where
    go : (label : Option (Variant × List ℕ)) → strip_label body ≡ label → either_at layout label body ≡ Some f
        → IsUntagged layout body f.digits f.text ⊎ IsTagged body f.variant f.digits f.text
    go (Some label) is e = let (front, is_label, whole) = strip_label-sound body label.0 label.1 is in inr (tagged_at-sound body front label.1 label.0 f is_label whole e)
    go None is e = inl (untagged_at-sound layout body f e).0

pub found_at-form : (layout : Layout) (body : List ℕ) (variant : Variant) (digits digest text : List ℕ)
    → IsUntagged layout body digits text ⊎ IsTagged body variant digits text → IsDigest variant digits digest → found_at layout body ≡ found variant digits text
unfolding found_at
found_at-form layout body variant digits digest text (inl form) is =
    rw (no_label layout body variant digits digest text form is) (untagged_at-form layout body variant digits digest text form is)
found_at-form layout body variant digits digest text (inr form) is =
    let label = ap strip_label form.whole ∙ strip_label-label variant form.label _ form.is_label in
    rw label (tagged_at-form variant form.space text form.before form.after digits digest form.is_space form.is_before form.is_after is)

-- ---- the mark

-- what a body starts with is no blank, no mark and no comment
pub starts-form : (layout : Layout) (body : List ℕ) (variant : Variant) (digits digest text : List ℕ)
    → IsUntagged layout body digits text ⊎ IsTagged body variant digits text → IsDigest variant digits digest → (x : ℕ) × (rest : List ℕ) × (body ≡ x ∷ rest) × (is_blank x ≡ false) × (eqb x 92 ≡ false) × (eqb x 35 ≡ false)
starts-form layout body variant digits digest text (inl form) is =
    let (first, others, e, digit) = starts variant digits digest is in
    (first, others ++ (form.separator ++ text), grind arith, grind (arith, nat_tests), grind (arith, nat_tests), grind (arith, nat_tests))
starts-form layout body variant digits digest text (inr form) is = grind arith
