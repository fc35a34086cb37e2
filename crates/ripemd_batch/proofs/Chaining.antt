-- The digest of a digest, and one more tag.
use Rattle.ripemd_block.proofs.Library.{◌≡◌, ℕ, zero, suc, ◌+◌, ◌-◌, ◌≤◌, List, [], ◌∷◌, length, map, arith, refl, ap, ◌∙◌, bit_xor, zip2, range_with_len, fold, iterate, fold-append, map-range_with_len_more, fun_ext, zero-add}
use Rattle.ripemd_block.specs.Standard.{hash}
use Rattle.ripemd_block.specs.Laws.Blocks.{blocks_of_one}
use Rattle.ripemd_batch.specs.Pbkdf2.{combined_tags}
use Rattle.ripemd_batch.specs.Lanes.{padded_after, hash_after}

-- the hash, after a block, of a message of one padded block
pub hash_of_one : (step : List ℕ → List ℕ → List ℕ) (output : List ℕ → List ℕ) (first message last : List ℕ)
    → length (padded_after 64 message) ≡ 64 → last ≡ step first (padded_after 64 message)
    → output last ≡ hash_after 64 first step output message
unfolding hash_after
hash_of_one step output first message last size is = rw (blocks_of_one (padded_after 64 message) size) (ap output is)

-- from the start it is the hash
pub hash_after_start : (start : List ℕ) (step : List ℕ → List ℕ → List ℕ) (output : List ℕ → List ℕ)
    → hash_after 0 start step output ≡ hash start step output
unfolding hash_after hash
hash_after_start start step output = fun_ext (λ m. rw (zero-add (length m)) refl)

-- ---- one more tag

module _ (tag : List ℕ → List ℕ) (first : List ℕ) where
  pub next_tag : (n : ℕ) → 1 ≤ n → iterate tag (n + 1 - 1) first ≡ tag (iterate tag (n - 1) first)
  next_tag n some = let count : n + 1 - 1 ≡ suc (n - 1) = omega arith in rw count (again (n - 1) first)
    where
      again : (n : ℕ) (x : List ℕ) → iterate tag (suc n) x ≡ tag (iterate tag n x)
      again zero x = refl
      again (suc n) x = again n (tag x)

  pub next_combined : (n : ℕ) → 1 ≤ n
      → combined_tags tag (n + 1) first ≡ zip2 bit_xor (combined_tags tag n first) (iterate tag (n + 1 - 1) first)
  unfolding combined_tags
  next_combined n some =
      let at : ℕ → List ℕ = λ j. iterate tag (j - 1) first in
      let count : n + 1 - 1 ≡ n - 1 + 1 = omega arith in
      ap (λ k. fold (zip2 bit_xor) first (map at (range_with_len 2 k))) count
      ∙ ap (fold (zip2 bit_xor) first) (map-range_with_len_more at 2 (n - 1) (n + 1) (omega arith))
      ∙ fold-append (zip2 bit_xor) first (map at (range_with_len 2 (n - 1))) (at (n + 1) ∷ [])
