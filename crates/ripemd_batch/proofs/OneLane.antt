-- The words of one message in vectors. Any vector may stand after these.
use Rattle.ripemd_block.proofs.Library.{◌≡◌, ℕ, ◌<◌, List, [], ◌∷◌, get_or, length, map, slice_index, ap, sym, ◌∙◌, arith, get_or-map, fill_by_all, length-map-range_with_len}
use Rattle.ripemd_block.proofs.Tables.{value_at}
use Rattle.ripemd_batch.specs.Lanes.{lane_at, lane_of}

pub lane_size : (v : List (List ℕ)) (n j : ℕ) → length (lane_of n j v) ≡ n
lane_size v n j = length-map-range_with_len (λ i. lane_at v i j) 0 n

module _ {V : Type 0} (words : V → List ℕ) where
  pub word_in : (v : List V) (i j : ℕ) (d : V) → i < length v → lane_at (map words v) i j ≡ slice_index (words (get_or v i d)) j
  word_in v i j d within = ap (λ (x : List ℕ). slice_index x j) (get_or-map words v i d [] within)

  pub word_is : (v : List V) (i j word : ℕ) → i < length v → ((d : V) → word ≡ slice_index (words (get_or v i d)) j)
      → word ≡ lane_at (map words v) i j
  word_is [] i j word within same = absurd (omega (arith, within))
  word_is (x ∷ v) i j word within same = same x ∙ sym (word_in (x ∷ v) i j x within)

  -- word i of the lane
  pub lane_word : (v : List V) (n j i : ℕ) (d : V) → length v ≡ n → i < n
      → slice_index (lane_of n j (map words v)) i ≡ slice_index (words (get_or v i d)) j
  lane_word v n j i d count h = value_at (λ i. lane_at (map words v) i j) n i 0 h ∙ word_in v i j d (omega arith)

  -- these words are the lane
  pub lane_is : (v : List V) (n j : ℕ) (ws : List ℕ) → length v ≡ n → length ws ≡ n
      → ((i : ℕ) → i < n → (d : V) → slice_index ws i ≡ slice_index (words (get_or v i d)) j) → ws ≡ lane_of n j (map words v)
  lane_is v n j ws count size same =
      fill_by_all (λ i. lane_at (map words v) i j) ws n 0 size
      (λ i h. word_is v i j (slice_index ws i) (omega (arith, count, h)) (same i h))

  -- vectors with the same words have the same lane
  pub same_lane : (v w : List V) (n j : ℕ) → length v ≡ n → length w ≡ n
      → ((i : ℕ) → i < n → (d : V) → slice_index (words (get_or v i d)) j ≡ slice_index (words (get_or w i d)) j)
      → lane_of n j (map words v) ≡ lane_of n j (map words w)
  same_lane v w n j count many same =
      lane_is w n j (lane_of n j (map words v)) many (lane_size (map words v) n j) (λ i h d. lane_word v n j i d count h ∙ same i h d)
