use Rattle.ripemd_block.proofs.Library.{◌≡◌, ℕ, ◌<◌, ◌+◌, ◌*◌, List, [], ◌∷◌, ◌++◌, get_or, slice_index, refl, ap, ◌∙◌, arith, get_or_default}
use Rattle.ripemd_block.specs.Standard.{message_word}
use Rattle.ripemd_batch.specs.Lanes.{list_at, targets}
use Rattle.ripemd_batch.proofs.EightLanes.{below_four, below_eight}
use Rattle.ripemd_batch.proofs.eight.EightLanes.four_message_words.Goals as goal

pub returns : goal.returns
returns c =
    let word : ℕ → ℕ → ℕ = λ k j. message_word (list_at (targets c.args.blocks.now) j) (4 * c.args.i + k) in
    let low = c.transposed_words-low.result in
    let high = c.transposed_words-high.result in
    let joined : (k : ℕ) (p q w : List ℕ) → k < 4 → w ≡ get_or low k p ++ get_or high k q → (j : ℕ) → j < 8 → List ℕ
    → slice_index w j ≡ word k j = λ k p q w small is j lane d.
    let row : ℕ → List ℕ = λ i. word k i ∷ word k (i + 1) ∷ word k (i + 2) ∷ word k (i + 3) ∷ [] in
    let both : w ≡ row 0 ++ row 4 = is ∙ rw (
      get_or_default low k p [] (omega arith),
      c.transposed_words-low.ensures k small,
      get_or_default high k q [] (omega arith),
      c.transposed_words-high.ensures k small,
    ) refl in
    ap (λ (x : List ℕ). slice_index x j) both
    ∙ below_eight (λ j. slice_index (row 0 ++ row 4) j ≡ word k j) refl refl refl refl refl refl refl refl j lane in
    below_four _ (joined 0 _ _ _ (omega arith) c.joined.ensures) (joined 1 _ _ _ (omega arith) c.joined-2.ensures)
    (joined 2 _ _ _ (omega arith) c.joined-3.ensures) (joined 3 _ _ _ (omega arith) c.joined-4.ensures)
