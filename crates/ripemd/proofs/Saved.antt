-- Saved bytes of a core and a tail, put together and taken apart.
use Rattle.ripemd_block.proofs.Library.{◌≡◌, ℕ, ◌+◌, ◌-◌, ◌<◌, suc, refl, sym, ap, ◌∙◌, arith, rules, List, [], ◌∷◌, ◌++◌, length, take, drop, get_or, replicate, length-drop, length-take-le, length-replicate, take-append-drop, drop_at, take-append_seam, drop-append_seam}
use Rattle.ripemd_block.proofs.Absorbing.{slice_from}
use Rattle.ripemd_block.specs.States.{HashState, IsTail, IsHashState, IsWithoutTail, with_tail, output_and_count, tail_bytes, core_and_tail}
use Rattle.ripemd_block.specs.OverLists.{IsInjectiveOutput}
use Rattle.ripemd_block.specs.Laws.Saved.{length-output_and_count, length-core_and_tail, core_and_tail-split}

-- ---- the saved bytes of a tail: its length, the tail, and zeros

-- the bytes after as many as the first says, as a slice of code has them
abbrev pub behind_tail : List ℕ → List ℕ
behind_tail saved = take (length saved - (1 + get_or saved 0 0)) (drop (1 + get_or saved 0 0) saved)

pub zeros_behind : (tail saved : List ℕ) → tail_bytes tail ≡ saved
    → behind_tail saved ≡ replicate (length (behind_tail saved)) 0
zeros_behind tail saved is =
    let zeros : List ℕ = replicate (63 - length tail) 0 in
    let behind : drop (1 + length tail) (length tail ∷ tail ++ zeros) ≡ zeros =
    drop_at (length tail ∷ tail) zeros (1 + length tail) (omega arith) in
    rw (slice_from (1 + get_or saved 0 0) saved, ← is, behind, length-replicate {A = ℕ} (63 - length tail) 0) refl

-- a length below 64, as many bytes, and zeros: the saved bytes of a tail
pub tail_of_zeros : (saved : List ℕ) → length saved ≡ 64 → get_or saved 0 0 < 64
    → behind_tail saved ≡ replicate (length (behind_tail saved)) 0
    → tail_bytes (take (get_or saved 0 0) (take (length saved - 1) (drop 1 saved))) ≡ saved
tail_of_zeros [] size short zeros = absurd (omega arith)
tail_of_zeros (n ∷ behind) size short zeros =
    let held : length (take n behind) ≡ n = length-take-le n behind (omega arith) in
    let left : 63 - n ≡ length (drop n behind) = omega (arith, length-drop n behind) in
    let place : 1 + n ≡ suc n = omega arith in
    let none = rw (slice_from (1 + n) (n ∷ behind), place) at zeros in
    rw (slice_from 1 (n ∷ behind), held, left, ← none) (ap (λ (bs : List ℕ). n ∷ bs) (take-append-drop n behind))

-- ---- the saved bytes of a hasher: a core, and then a tail

module _ {are_words : List ℕ → Type 0} {output : List ℕ → List ℕ} {size : ℕ} (told : IsInjectiveOutput are_words output size)
    (h : HashState) (valid : IsHashState are_words h) (n : ℕ) (core_size : n ≡ size + 8)
    (bytes : List ℕ) (same : core_and_tail output h ≡ bytes) where
  split : bytes ≡ output_and_count output h ++ tail_bytes h.tail
  split = sym same ∙ core_and_tail-split output h

  place : n ≡ length (output_and_count output h)
  place = core_size ∙ sym (length-output_and_count told h valid)

  pub whole : length bytes ≡ n + 64
  whole = omega (arith, ap length same, length-core_and_tail told h valid, core_size)

  -- the first are the saved bytes of its core
  pub core_front : (core : List ℕ) → core ≡ take n bytes → output_and_count output (with_tail h []) ≡ core
  unfolding output_and_count
  core_front core front = sym (front ∙ rw (split, place) (take-append_seam (output_and_count output h) (tail_bytes h.tail)))

  pub own_core : IsWithoutTail are_words (with_tail h [])
  own_core =
      let no_tail : IsTail [] = record { short = omega arith; bytes = search rules } in
      record { state = record { words = valid.words; count = valid.count; tail = no_tail }; no_tail = refl }

  pub tail_back : (tail : List ℕ) → tail ≡ drop n bytes → tail_bytes h.tail ≡ tail
  tail_back tail back =
      sym (back ∙ rw (split, place) (drop-append_seam (output_and_count output h) (tail_bytes h.tail)))
