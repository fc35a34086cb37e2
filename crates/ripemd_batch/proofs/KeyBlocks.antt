-- The blocks of a key, from the states after the two masked keys.
use Rattle.ripemd_block.proofs.Library.{◌≡◌, ℕ, ◌+◌, ◌-◌, ◌*◌, ◌%◌, ◌^◌, ◌<◌, ◌≤◌, suc, suc-mul, mul-le-mul_right, le-mul_of_pos_right, lt_of_mul-lt-mul_right, arith, List, ◌++◌, length, length-append, append_assoc, refl, ap, div_ceil, div_ceil_times, fun_ext, div-mul-add, mod-mul-add, mul-add-lt}
use Rattle.ripemd_block.specs.Laws.Blocks.{blocks_joined, blocks_of_one, left_over_joined}
use Rattle.ripemd_block.specs.Laws.Pieces.{with_padding_rest}
use Rattle.ripemd_block.specs.Standard.{hash}
use Rattle.ripemd_mac.specs.Hmac.{key_block, masked, inner_message, outer_message, hmac}
use Rattle.ripemd_mac.specs.Pbkdf2.{INT, U, F}
use Rattle.ripemd_batch.specs.Pbkdf2.{HasBlocks, InGroup, IsFilled, KeyList, combined_tags, tag_after}
use Rattle.ripemd_batch.specs.Lanes.{hash_after, list_at}

-- block b of key i in its group, and the group that the next block is in
pub in_group : (size : ℕ) (PRF : List ℕ → List ℕ → List ℕ) (keys : KeyList) (i b k : ℕ) (group : List (List ℕ))
    → i < length keys.passwords → b < keys.count → k ≡ keys.count * i + b → HasBlocks size PRF keys (k - k % 8) group
    → IsFilled size (list_at group (k % 8)) (F PRF (list_at keys.passwords i) (list_at keys.salts i) keys.rounds (b + 1))
in_group size PRF keys i b k group pair inside is has =
    let place : k - k % 8 + k % 8 ≡ i * keys.count + b = omega arith in
    let all : i * keys.count + b < keys.count * length keys.passwords = mul-add-lt i keys.count b (length keys.passwords) pair inside in
    rw (place, div-mul-add i keys.count b inside, mod-mul-add i keys.count b inside) at (has (k % 8) (omega arith) (rw place all))

pub next_group : (size : ℕ) (PRF : List ℕ → List ℕ → List ℕ) (keys : KeyList) (k n : ℕ) (group : List (List ℕ))
    → HasBlocks size PRF keys (k - k % 8) group → n ≡ k + 1 → InGroup size PRF keys n group
next_group size PRF keys k n group has next more j h within =
    let same : n - n % 8 ≡ k - k % 8 = omega arith in
    rw same (has j h (omega arith))

-- a key has fewer than 2^32 blocks, and all keys have no more blocks than bytes
pub count_fits : (size digest : ℕ) → 0 < digest → size ≤ (2 ^ 32 - 1) * digest → div_ceil size digest < 2 ^ 32
count_fits size digest some most = lt_of_mul-lt-mul_right digest (omega (arith, (div_ceil_times size digest some).1))

pub all_fit : (size digest n : ℕ) → 0 < digest → size * n < 2 ^ 63 → div_ceil size digest * n < 2 ^ 63
all_fit size digest n some fits =
    let few : div_ceil size digest < suc size =
    lt_of_mul-lt-mul_right digest (omega (arith, suc-mul size digest, le-mul_of_pos_right size some, (div_ceil_times size digest some).1)) in
    let fewer : div_ceil size digest ≤ size = omega arith in
    omega (arith, mul-le-mul_right n fewer)

module _ (start : List ℕ) (step : List ℕ → List ℕ → List ℕ) (output : List ℕ → List ℕ) where
  -- from the state after a block, it is the hash of the block and the message
  after_block : (block m : List ℕ) → length block ≡ 64
      → hash_after 64 (step start block) step output m ≡ hash start step output (block ++ m)
  unfolding hash_after hash
  after_block block m size =
      let n : ℕ = 8 * (64 + length m) % 2 ^ 64 in
      rw (
        length-append block m,
        size,
        with_padding_rest (block ++ m) n,
        with_padding_rest m n,
        left_over_joined 1 block m size,
        blocks_joined 1 block m size,
        blocks_of_one block size,
      ) refl

  module _ (password inner outer : List ℕ) (inner_size : length inner ≡ 64) (outer_size : length outer ≡ 64)
      (is_inner : inner ≡ masked 0x36 (key_block (hash start step output) password))
      (is_outer : outer ≡ masked 0x5c (key_block (hash start step output) password)) where
    -- the tag of a text
    pub tags : tag_after step output (step start inner) (step start outer) ≡ hmac (hash start step output) password
    unfolding hmac outer_message inner_message
    tags = fun_ext (λ text.
        rw (after_block inner text inner_size, after_block outer (hash start step output (inner ++ text)) outer_size, is_inner, is_outer) refl)

    -- so a block is that of the definition
    pub block_is : (salt : List ℕ) (rounds i : ℕ)
        → combined_tags (tag_after step output (step start inner) (step start outer)) rounds
        (hash_after 64 (step start outer) step output (hash start step output (inner ++ salt ++ INT i)))
        ≡ F (hmac (hash start step output)) password salt rounds i
    unfolding F U combined_tags
    block_is salt rounds i =
        rw (append_assoc inner salt (INT i), ← after_block inner (salt ++ INT i) inner_size)
        (ap (λ (tag : List ℕ → List ℕ). combined_tags tag rounds (tag (salt ++ INT i))) tags)
