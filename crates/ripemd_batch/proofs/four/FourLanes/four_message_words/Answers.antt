use Rattle.ripemd_block.proofs.Library.{◌≡◌, ℕ, ◌+◌, ◌*◌, List, [], ◌∷◌, slice_index, ap, refl, ◌∙◌, arith, get_or_default}
use Rattle.ripemd_block.specs.Standard.{message_word}
use Rattle.ripemd_batch.specs.Lanes.{list_at, targets}
use Rattle.ripemd_batch.proofs.EightLanes.{below_four}
use Rattle.ripemd_batch.proofs.four.FourLanes.four_message_words.Goals as goal

pub returns : goal.returns
returns c k small j lane d =
    let word : ℕ → ℕ = λ j. message_word (list_at (targets c.args.blocks.now) j) (4 * c.args.i + k) in
    ap (λ (x : List ℕ). slice_index x j) (get_or_default c.transposed_words.result k d [] (omega arith) ∙ c.transposed_words.ensures k small)
    ∙ below_four (λ j. slice_index (word 0 ∷ word 1 ∷ word 2 ∷ word 3 ∷ []) j ≡ word j) refl refl refl refl j lane
