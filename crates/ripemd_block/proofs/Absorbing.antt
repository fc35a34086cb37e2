-- Bytes that come in after a tail: the first of them fill a block, or all stay in the tail.
use Rattle.ripemd_block.proofs.Library.{◌≡◌, ℕ, ◌+◌, ◌-◌, ◌≤◌, refl, arith, List, ◌∷◌, ◌++◌, length, take, drop, length-append, append_assoc, append-nil, length-take-le, take-append-drop, take_at, take_rest, drop_all}
use Rattle.ripemd_block.specs.Standard.{blocks, partial_block}
use Rattle.ripemd_block.specs.Laws.Blocks.{blocks_joined, blocks_of_one, left_over_joined}

-- ---- bytes written after the first of a block

pub take_put : (len : ℕ) (block bytes rest : List ℕ) → len ≤ length block
    → take (len + length bytes) (take len block ++ bytes ++ rest) ≡ take len block ++ bytes
take_put len block bytes rest fits =
    let size : length (take len block ++ bytes) ≡ len + length bytes =
    omega (arith, length-append (take len block) bytes, length-take-le len block fits) in
    take_at (take len block ++ bytes) rest (len + length bytes) size

-- if they reach the end of the block, nothing of it follows them
pub filled_block : (len : ℕ) (block bytes : List ℕ) → length block ≤ len + length bytes
    → take len block ++ bytes ++ drop (len + length bytes) block ≡ take len block ++ bytes
filled_block len block bytes full = rw (drop_all (len + length bytes) block full) (append-nil (take len block ++ bytes))

-- the bytes from a place on, as a slice of code has them
pub slice_from : (place : ℕ) (bytes : List ℕ) → take (length bytes - place) (drop place bytes) ≡ drop place bytes
slice_from place bytes = take_rest bytes place

-- ---- a tail that the first bytes fill

module _ (tail bytes : List ℕ) (room : ℕ) (full : length tail + room ≡ 64) (enough : room ≤ length bytes) where
  split : tail ++ bytes ≡ (tail ++ take room bytes) ++ drop room bytes
  split = rw (append_assoc tail (take room bytes) (drop room bytes), take-append-drop room bytes) refl

  size : length (tail ++ take room bytes) ≡ 64
  size = omega (arith, length-append tail (take room bytes), length-take-le room bytes enough)

  -- the filled block is the first
  pub blocks_filled : (tail ++ take room bytes) ∷ blocks (drop room bytes) ≡ blocks (tail ++ bytes)
  blocks_filled =
      let first = tail ++ take room bytes in
      rw (split, blocks_joined 1 first (drop room bytes) size, blocks_of_one first size) refl

  pub left_over_filled : partial_block (drop room bytes) ≡ partial_block (tail ++ bytes)
  left_over_filled = rw (split, left_over_joined 1 (tail ++ take room bytes) (drop room bytes) size) refl
