-- A block function over lists of numbers, in place of states of its own (this repository's own). Over arrays, which
-- are their lists, it is the block function itself.
use Rattle.std.proofs.Common.{◌≡◌, ℕ, refl, ap, ◌∙◌, List, [], ◌∷◌, length}
use Rattle.ripemd_block.specs.Standard.{padded_message, blocks, walk, hash}

-- list, step and output are those of a block function
pub record IsOverLists {S D : Type 0} (list : S → List ℕ) (is_state : S → Type 0) (step_of : S → List ℕ → S)
    (output_of : S → D) (bytes : D → List ℕ)
    (are_words : List ℕ → Type 0) (step : List ℕ → List ℕ → List ℕ) (output : List ℕ → List ℕ) : Type 0 where
  pub of_state : (s : S) → is_state s → are_words (list s)
  pub of_step : (s : S) (block : List ℕ) → list (step_of s block) ≡ step (list s) block
  pub of_output : (s : S) → bytes (output_of s) ≡ output (list s)

-- of arrays, which are their lists, these are the same
pub of_arrays : {is_state : List ℕ → Type 0} {step : List ℕ → List ℕ → List ℕ} {output : List ℕ → List ℕ}
    → IsOverLists (λ state. state) is_state step output (λ digest. digest) is_state step output
of_arrays = record { of_state = λ state valid. valid; of_step = λ state block. refl; of_output = λ state. refl }

-- outputs have n bytes, and different words have different outputs
pub record IsInjectiveOutput (are_words : List ℕ → Type 0) (output : List ℕ → List ℕ) (n : ℕ) : Type 0 where
  pub size : (xs : List ℕ) → are_words xs → length (output xs) ≡ n
  pub injective : (xs ys : List ℕ) → are_words xs → are_words ys → output xs ≡ output ys → xs ≡ ys

module _ {S D : Type 0} {list : S → List ℕ} {is_state : S → Type 0} {step_of : S → List ℕ → S} {output_of : S → D}
    {bytes : D → List ℕ} {are_words : List ℕ → Type 0} {step : List ℕ → List ℕ → List ℕ} {output : List ℕ → List ℕ}
    (lists : IsOverLists list is_state step_of output_of bytes are_words step output) where
  -- a walk over lists leads to the list of the last state
  pub walk_over_lists : (s : S) (bs : List (List ℕ)) → list (walk step_of s bs) ≡ walk step (list s) bs
  walk_over_lists s [] = refl
  walk_over_lists s (b ∷ bs) = walk_over_lists (step_of s b) bs ∙ ap (λ (xs : List ℕ). walk step xs bs) (lists.of_step s b)

  -- the hash by states has the bytes of the hash by lists
  pub hash_over_lists : (start : S) (message : List ℕ)
      → bytes (hash start step_of output_of message) ≡ hash (list start) step output message
  unfolding hash
  hash_over_lists start message =
      let bs = blocks (padded_message message) in
      lists.of_output (walk step_of start bs) ∙ ap output (walk_over_lists start bs)
