-- The laws of saved bytes: their number, and that different states have different ones.
use Rattle.std.proofs.Common.{◌≡◌, ◌≢◌, ℕ, ◌+◌, ◌*◌, ◌-◌, ◌^◌, ◌<◌, rules, refl, sym, ap, ◌∙◌, arith, List, [], ◌++◌, length, take, drop, get_or, replicate, length-append, Result, Ok, Err, IfErr, IsOk}
use Rattle.std.specs.Int.{w64, from_le_bytes}
use Rattle.std.proofs.lemmas.List.{append_assoc, length-replicate, take_at, drop_at, length-drop, get_or-drop, take-append-drop}
use Rattle.std.proofs.lemmas.List.FromFn.{fill_by_all}
use Rattle.std.proofs.Math.Seq.{take-append_seam, drop-append_seam}
use Rattle.std.proofs.lemmas.Nat.{le_bytes_8, from_le_bytes-to_le_bytes_8}
use Rattle.ripemd_block.specs.Standard.{word_bytes, eight_bytes, Parameters}
use Rattle.ripemd_block.specs.States.{HashState, AreWords, IsHashState, IsState, IsWithoutTail, IsCoreState, output_and_count, tail_bytes, core_and_tail, core_bytes, hasher_bytes}
use Rattle.ripemd_block.specs.OverLists.{IsInjectiveOutput}
use Rattle.ripemd_block.specs.Laws.WordBytes.{words_of, words_read, words_in_range, bytes_of_words, word_bytes_injective}

-- the bytes of n words determine them
pub word_bytes_output : (n : ℕ) → IsInjectiveOutput (AreWords n) word_bytes (4 * n)
word_bytes_output n = record { size = bytes_of_words n; injective = word_bytes_injective n }

-- the bytes of a count determine it
pub eight_bytes_injective : (m n : ℕ) → m < 2 ^ 64 → n < 2 ^ 64 → eight_bytes m ≡ eight_bytes n → m ≡ n
eight_bytes_injective m n of_m of_n same =
    sym (from_le_bytes-to_le_bytes_8 m of_m) ∙ ap (from_le_bytes w64) same ∙ from_le_bytes-to_le_bytes_8 n of_n

same_parts : (a b x y : List ℕ) → length a ≡ length b → a ++ x ≡ b ++ y → (a ≡ b) × (x ≡ y)
same_parts a b x y size same = (
  sym (take-append_seam a x) ∙ ap (take (length a)) same ∙ rw size (take-append_seam b y),
  sym (drop-append_seam a x) ∙ ap (drop (length a)) same ∙ rw size (drop-append_seam b y),
)

tail_bytes_injective : (s t : List ℕ) → tail_bytes s ≡ tail_bytes t → s ≡ t
tail_bytes_injective s t same =
    let size : length s ≡ length t = ap (λ (bs : List ℕ). get_or bs 0 0) same in
    (same_parts s t (replicate (63 - length s) 0) (replicate (63 - length t) 0) size (ap (drop 1) same)).0

pub core_and_tail-split : (output : List ℕ → List ℕ) (h : HashState)
    → core_and_tail output h ≡ output_and_count output h ++ tail_bytes h.tail
unfolding core_and_tail
core_and_tail-split output h = refl

same_meaning : (g h : HashState) → g.words ≡ h.words → g.count ≡ h.count → g.tail ≡ h.tail → g ≡ h
same_meaning g h words count tail =
    ap (λ (w : List ℕ). record g { words = w }) words
    ∙ ap (λ (n : ℕ). record g { words = h.words; count = n }) count
    ∙ ap (λ (t : List ℕ). record h { tail = t }) tail

module _ {are_words : List ℕ → Type 0} {output : List ℕ → List ℕ} {n : ℕ} (tells : IsInjectiveOutput are_words output n) where
  -- two states whose cores are saved as the beginning of the same bytes, if they have one tail
  same_state : (g h : HashState) (a b : List ℕ) → IsHashState are_words g → IsHashState are_words h
      → (a ≡ b → g.tail ≡ h.tail) → output_and_count output g ++ a ≡ output_and_count output h ++ b → g ≡ h
  unfolding output_and_count
  same_state g h a b of_g of_h tails same =
      let size = tells.size g.words of_g.words ∙ sym (tells.size h.words of_h.words) in
      let parts =
      same_parts (output g.words) (output h.words) (eight_bytes g.count ++ a) (eight_bytes h.count ++ b) size
      (sym (append_assoc (output g.words) (eight_bytes g.count) a) ∙ same ∙ append_assoc (output h.words) (eight_bytes h.count) b) in
      let words = tells.injective g.words h.words of_g.words of_h.words parts.0 in
      let count = eight_bytes_injective g.count h.count of_g.count of_h.count (ap (take 8) parts.1) in
      same_meaning g h words count (tails (ap (drop 8) parts.1))

  -- ---- cores

  pub length-output_and_count : (h : HashState) → IsHashState are_words h → length (output_and_count output h) ≡ n + 8
  unfolding output_and_count
  length-output_and_count h valid = omega (arith, length-append {A = ℕ}, tells.size h.words valid.words)

  pub output_parts : (h : HashState) (bytes : List ℕ) → IsHashState are_words h → output_and_count output h ≡ bytes
      → (output h.words ≡ take n bytes) × (eight_bytes h.count ≡ drop n bytes)
  unfolding output_and_count
  output_parts h bytes valid same =
      let size = tells.size h.words valid.words in (
        sym (take_at (output h.words) (eight_bytes h.count) n size) ∙ ap (take n) same,
        sym (drop_at (output h.words) (eight_bytes h.count) n size) ∙ ap (drop n) same,
      )

  pub output_and_count_injective : (g h : HashState) → IsWithoutTail are_words g → IsWithoutTail are_words h
      → output_and_count output g ≡ output_and_count output h → g ≡ h
  output_and_count_injective g h of_g of_h same =
      same_state g h [] [] of_g.state of_h.state (λ both. of_g.no_tail ∙ sym of_h.no_tail)
      (ap (λ (bs : List ℕ). bs ++ []) same)

  -- ---- hashers

  pub length-core_and_tail : (h : HashState) → IsHashState are_words h → length (core_and_tail output h) ≡ n + 8 + 64
  length-core_and_tail h valid =
      let all = length-append (output_and_count output h) (tail_bytes h.tail) in
      grind (arith, ap length (core_and_tail-split output h), all, length-append {A = ℕ}, length-replicate {A = ℕ}, length-output_and_count h valid, valid.tail.short)

  pub core_and_tail_injective : (g h : HashState) → IsHashState are_words g → IsHashState are_words h
      → core_and_tail output g ≡ core_and_tail output h → g ≡ h
  core_and_tail_injective g h of_g of_h same =
      same_state g h (tail_bytes g.tail) (tail_bytes h.tail) of_g of_h (tail_bytes_injective g.tail h.tail)
      (sym (core_and_tail-split output g) ∙ same ∙ core_and_tail-split output h)

-- ---- the four variants

pub hasher_bytes_injective : (v : Parameters) (g h : HashState) → IsState v g → IsState v h → hasher_bytes g ≡ hasher_bytes h → g ≡ h
hasher_bytes_injective v = core_and_tail_injective (word_bytes_output (length v.start))

-- the number of eight bytes is below 2 ^ 64
count_of_eight : (bs : List ℕ) → length bs ≡ 8 → ((i : ℕ) → get_or bs i 0 < 256) → from_le_bytes w64 bs < 2 ^ 64
count_of_eight bs size small =
    rw (fill_by_all (λ i. get_or bs i 0) bs 8 0 size (λ i within. refl))
    (omega (arith, small 0, small 1, small 2, small 3, small 4, small 5, small 6, small 7))

-- bytes of this number are those of some core: not of none
every_core : (v : Parameters) (bytes : List ℕ) → length bytes ≡ 4 * length v.start + 8
    → ((i : ℕ) → get_or bytes i 0 < 256) → ¬ ((h : HashState) → IsCoreState v h → core_bytes h ≢ bytes)
unfolding output_and_count
every_core v bytes size small refused =
    let n : ℕ = length v.start in
    let last : List ℕ = drop (4 * n) bytes in
    let last_size : length last ≡ 8 = omega (arith, length-drop (4 * n) bytes) in
    let last_small : (i : ℕ) → get_or last i 0 < 256 = λ i. rw (get_or-drop (4 * n) bytes i 0) (small (4 * n + i)) in
    let words = words_read n bytes (omega arith) small in
    let count = le_bytes_8 last (from_le_bytes w64 last) last_size last_small refl in
    let state : IsState v (record { words = words_of n bytes; count = from_le_bytes w64 last; tail = [] }) = record {
      words = words_in_range n bytes (omega arith) small;
      count = count_of_eight last last_size last_small;
      tail = record { short = omega arith; bytes = search rules };
    } in
    refused (record { words = words_of n bytes; count = from_le_bytes w64 last; tail = [] })
    (record { state = state; no_tail = refl }) (rw (words, count) (take-append-drop (4 * n) bytes))

-- so a load that refuses only the bytes of no core takes any bytes of this number
pub takes_every_core : {T E : Type 0} (v : Parameters) (bytes : List ℕ) (loaded : Result T E)
    → IfErr loaded (λ _. (h : HashState) → IsCoreState v h → core_bytes h ≢ bytes)
    → length bytes ≡ 4 * length v.start + 8 → ((i : ℕ) → get_or bytes i 0 < 256) → IsOk loaded
takes_every_core v bytes (Ok core) refused size small = refl
takes_every_core v bytes (Err error) refused size small = absurd (every_core v bytes size small refused)
