-- The bytes that hash states are kept as, composed and taken apart.
use Rattle.ripemd_block.proofs.Library.{◌≡◌, ◌≢◌, ℕ, ◌+◌, ◌-◌, ◌<◌, suc, refl, sym, ap, ◌∙◌, arith, rules, List, All, [], ◌∷◌, ◌++◌, length, take, drop, get_or, length-append, length-take, length-drop, length-take-le, length-replicate, take_at, drop_at, take-append-drop}
use Rattle.ripemd.specs.States.{HashState, IsHashState, IsWithoutTail, with_tail, output_and_count, tail_bytes, core_and_tail}
use Rattle.ripemd.specs.OverLists.{IsInjectiveOutput}
use Rattle.ripemd_block.specs.Laws.Saved.{length-output_and_count, length-core_and_tail, core_and_tail-split}
use Rattle.ripemd_c.specs.KeptBytes.{cleared, cleared_tail}

-- lists that begin with as many elements have the same first ones and the same others
pub same_parts : (a b x y : List ℕ) → length a ≡ length b → a ++ x ≡ b ++ y → (a ≡ b) × (x ≡ y)
same_parts a b x y size same = (
  sym (take_at a x (length b) size) ∙ ap (take (length b)) same ∙ take_at b y (length b) refl,
  sym (drop_at a x (length b) size) ∙ ap (drop (length b)) same ∙ drop_at b y (length b) refl,
)

length-cleared_tail : (kept : List ℕ) → length (cleared_tail kept) ≡ length kept
length-cleared_tail [] = refl
length-cleared_tail (n ∷ behind) = simp (length-append, length-replicate, length-take) (omega arith)

pub length-cleared : (n : ℕ) (kept : List ℕ) → length (cleared n kept) ≡ length kept
length-cleared n kept = simp (length-append, length-cleared_tail, length-take, length-drop) (omega arith)

-- a core and a tail are kept as the bytes of the core, the tail's length, the tail, and any bytes
pub both_kept : (output : List ℕ → List ℕ) (h : HashState) (tail : List ℕ) (n : ℕ) (core rest behind : List ℕ)
    → length core ≡ n → output_and_count output h ≡ core → rest ≡ length tail ∷ tail ++ behind → length behind ≡ 63 - length tail
    → core_and_tail output (with_tail h tail) ≡ cleared n (core ++ rest)
unfolding output_and_count
both_kept output h tail n core rest behind core_size of_core of_rest size =
    let left : length (tail ++ behind) - length tail ≡ 63 - length tail = omega (arith, length-append tail behind, size) in
    core_and_tail-split output (with_tail h tail)
    ∙ rw (take_at core rest n core_size, drop_at core rest n core_size, of_rest, take_at tail behind (length tail) refl, left, of_core) refl

-- what a hasher is saved as has zeros after the tail
pub saved_is_clear : {are_words : List ℕ → Type 0} {output : List ℕ → List ℕ} {n core : ℕ} → IsInjectiveOutput are_words output n
    → core ≡ n + 8 → (h : HashState) (bytes : List ℕ) → IsHashState are_words h → core_and_tail output h ≡ bytes
    → cleared core bytes ≡ bytes
saved_is_clear {output = output} {core = core} tells size h bytes valid same =
    ap (cleared core) (sym same ∙ core_and_tail-split output h)
    ∙ sym (both_kept output h h.tail core (output_and_count output h) (tail_bytes h.tail) _
    (length-output_and_count tells h valid ∙ sym size) refl refl (length-replicate {A = ℕ} (63 - length h.tail) 0)) ∙ same

pub ruleset saving = (saved_is_clear, length-core_and_tail)

-- the bytes that a tail is kept as begin with its length and the tail
kept_tail : (tail kept : List ℕ) → length kept ≡ 64 → length tail < 64 → tail_bytes tail ≡ cleared_tail kept
    → kept ≡ length tail ∷ tail ++ drop (suc (length tail)) kept
kept_tail tail [] size short is = absurd (omega arith)
kept_tail tail (n ∷ behind) size short is =
    let first : length tail ≡ n = cc in
    let held : length tail ≡ length (take n behind) = omega (arith, length-take-le n behind (omega arith)) in
    cc (first, (same_parts tail (take n behind) _ _ held (ap (drop 1) is)).0, take-append-drop n behind)

-- a core with another tail
pub with_valid : {are_words : List ℕ → Type 0} {h : HashState} {tail : List ℕ} → IsHashState are_words h → length tail < 64
    → All (λ b. b < 256) tail → IsHashState are_words (with_tail h tail)
with_valid valid short bytes = record { words = valid.words; count = valid.count; tail = record { short = short; bytes = bytes } }

-- the bytes that a hasher is kept as are those of its core, whatever the tail, and those of its tail
module _ {are_words : List ℕ → Type 0} {output : List ℕ → List ℕ} {size n mid : ℕ} {h : HashState}
    (told : IsInjectiveOutput are_words output size) (core_size : n ≡ size + 8) (valid : IsHashState are_words h)
    (kept : List ℕ) (kept_size : length kept ≡ n + 64) (same : core_and_tail output h ≡ cleared n kept) (is_mid : mid ≡ n) where
  pub kept_parts : {front back : List ℕ} → front ≡ take mid kept → back ≡ drop mid kept
      → ((tail : List ℕ) → output_and_count output (with_tail h tail) ≡ front)
      × (back ≡ length h.tail ∷ h.tail ++ drop (suc (length h.tail)) back)
  unfolding output_and_count
  kept_parts {front} {back} is_front is_back =
      let front_is = rw is_mid at is_front in
      let back_is = rw is_mid at is_back in
      let held : length (output_and_count output h) ≡ length front =
      omega (arith, length-output_and_count told h valid, ap length front_is, length-take n kept) in
      let parts =
      same_parts (output_and_count output h) front (tail_bytes h.tail) (cleared_tail back) held
      (sym (core_and_tail-split output h) ∙ rw (front_is, back_is) same) in
      (λ tail. parts.0, kept_tail h.tail back (omega (arith, ap length back_is, length-drop n kept)) valid.tail.short parts.1)

  -- so the first bytes are those of a core
  pub kept_core : {front : List ℕ} → front ≡ take mid kept
      → ¬ ((core : HashState) → IsWithoutTail are_words core → output_and_count output core ≢ front)
  kept_core is none =
      none (with_tail h []) (record { state = with_valid valid (omega arith) (search rules); no_tail = refl }) ((kept_parts is refl).0 [])

  -- a search finds this by the saved bytes
  pub kept_length : {back : List ℕ} → back ≡ drop mid kept
      → (core_and_tail output h ≡ core_and_tail output h) × (get_or back 0 0 ≡ length h.tail)
  kept_length is = (refl, ap (λ (bs : List ℕ). get_or bs 0 0) (kept_parts refl is).1)

pub cleared_front : (kept : List ℕ) → length kept ≡ 64 → get_or kept 0 0 < 64
    → tail_bytes (take (get_or kept 0 0) (drop 1 kept)) ≡ cleared_tail kept
cleared_front [] size short = absurd (omega arith)
cleared_front (n ∷ behind) size short =
    let left : length behind ≡ 63 = omega arith in
    rw (length-take-le n behind (omega arith), left) refl
