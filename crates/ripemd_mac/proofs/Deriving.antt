-- The blocks of a derived key, one U after another, and how they lie in the key.
use Rattle.ripemd.proofs.Library.{◌≡◌, ℕ, zero, suc, ◌+◌, ◌-◌, ◌*◌, ◌<◌, ◌≤◌, inl, inr, min, arith, refl, ap, ap₂, sym, ◌∙◌, length-append, List, [], ◌∷◌, ◌++◌, length, map, replicate, take, drop, mul-le-mul_right, zip2, range_with_len, flat_map, fold, iterate, div_ceil, length-zip2, fold-append, map-range_with_len_more, cases_lt, div_ceil_times, flat_map-append, flat_map-map, append-nil, nil_from_length, take-append-le, length-take-le, take_all, length-drop, take-append_seam, take-append-add, drop-replicate}
use Rattle.std.specs.Int.Bits.{bit_xor}
use Rattle.ripemd_mac.specs.Hmac.{filled}
use Rattle.ripemd_mac.specs.Pbkdf2.{INT, U, F}

iterate_next : {A : Type 0} (h : A → A) (n : ℕ) (x : A) → iterate h (suc n) x ≡ h (iterate h n x)
iterate_next h zero x = refl
iterate_next h (suc n) x = iterate_next h n (h x)

module _ (PRF : List ℕ → List ℕ → List ℕ) (P S : List ℕ) (i : ℕ) where
  -- the next U, and F of one more round
  pub next_U : (j : ℕ) → 1 ≤ j → U PRF P S i (j + 1) ≡ PRF P (U PRF P S i j)
  unfolding U
  next_U j most =
      let count : j + 1 - 1 ≡ suc (j - 1) = omega arith in
      rw count (iterate_next (PRF P) (j - 1) (PRF P (S ++ INT i)))

  pub next_F : (c : ℕ) → 1 ≤ c → F PRF P S (c + 1) i ≡ zip2 bit_xor (F PRF P S c i) (U PRF P S i (c + 1))
  unfolding F
  next_F c most =
      let count : c + 1 - 1 ≡ c - 1 + 1 = omega arith in
      ap (λ k. fold (zip2 bit_xor) (U PRF P S i 1) (map (U PRF P S i) (range_with_len 2 k))) count
      ∙ ap (fold (zip2 bit_xor) (U PRF P S i 1)) (map-range_with_len_more (U PRF P S i) 2 (c - 1) (c + 1) (omega arith))
      ∙ fold-append (zip2 bit_xor) (U PRF P S i 1) (map (U PRF P S i) (range_with_len 2 (c - 1))) (U PRF P S i (c + 1) ∷ [])

-- what stays of zeros behind at most 64 bytes
pub rest_of_zeros : (bytes : List ℕ) → bytes ++ drop (length bytes) (replicate 64 0) ≡ filled bytes
rest_of_zeros bytes = rw (drop-replicate {X = ℕ} (length bytes) 64 0) refl

-- ---- the blocks in the key

-- one more of what is joined
pub next_joined : (f : ℕ → List ℕ) (a n j : ℕ) → a + n ≡ j
    → flat_map f (range_with_len a (n + 1)) ≡ flat_map f (range_with_len a n) ++ f j
next_joined f a n j last =
    sym (flat_map-map (λ x. x) f (range_with_len a (n + 1))) ∙ ap (flat_map (λ x. x)) (map-range_with_len_more f a n j last)
    ∙ flat_map-append (λ x. x) (map f (range_with_len a n)) (f j ∷ [])
    ∙ ap₂ (λ x y. x ++ y) (flat_map-map (λ x. x) f (range_with_len a n)) (append-nil (f j))

-- the front of a list after a part is written over
pub front_put : (xs part rest : List ℕ) (at n : ℕ) → at ≤ length xs → n ≡ at + length part
    → take n (take at xs ++ (part ++ rest)) ≡ take at xs ++ part
front_put xs part rest at n inside size =
    let len : length (take at xs) ≡ at = length-take-le at xs inside in
    let count : n ≡ length (take at xs) + length part = omega (arith, len, size) in
    rw count (take-append-add (take at xs) (part ++ rest) (length part)
    ∙ ap (λ x. take at xs ++ x) (take-append_seam part rest))

-- the sizes of a part, and of the list with the part written over
pub part_size : (xs : List ℕ) (at n : ℕ) → at + n ≤ length xs → length (take (at + n - at) (drop at xs)) ≡ n
part_size xs at n inside =
    length-take-le (at + n - at) (drop at xs) (omega (arith, length-drop at xs)) ∙ omega arith

pub put_size : (xs part : List ℕ) (at k : ℕ) → length part ≡ k → at + k ≤ length xs
    → length (take at xs ++ (part ++ drop k (drop at xs))) ≡ length xs
put_size xs part at k many inside =
    omega (arith, length-append {A = ℕ}, length-take-le at xs (omega arith), length-drop {A = ℕ})

-- the first b blocks are in the key, as far as it reaches: the last one may be cut
pub record Written (f : ℕ → List ℕ) (h n b : ℕ) (key : List ℕ) : Type 0 where
  pub len : length key ≡ n
  pub many : length (flat_map f (range_with_len 1 b)) ≡ h * b
  pub so_far : take (h * b) key ≡ take n (flat_map f (range_with_len 1 b))

-- a part that has the front of the next block, as far as m bytes reach, and what follows it in these
part_put : (next part rest : List ℕ) (h m n : ℕ) → length next ≡ h → n ≡ min m h → part ≡ take n next → length rest ≡ m - n
    → take h (part ++ rest) ≡ take m next
part_put next part rest h m n whole is_n cut behind =
    elim (cases_lt m h) [
      | inl last ↦
          let same : n ≡ m = omega arith in
          let nothing : rest ≡ [] = nil_from_length rest (omega arith) in
          let size : length part ≤ h = omega (arith, ap length cut, length-take-le n next (omega arith)) in
          rw (nothing, append-nil part) (take_all h part size ∙ rw same at cut)
      | inr full ↦
          let all : part ≡ next = cut ∙ take_all n next (omega arith) in
          rw (all, ← whole) (take-append_seam next rest) ∙ sym (take_all m next (omega arith))
    ]

pub one_more : (f : ℕ → List ℕ) (h n b end : ℕ) (key part rest block : List ℕ) → Written f h n b key → h * b < n
    → end ≡ min n (h * b + h) → length part ≡ end - h * b → length rest ≡ n - end
    → part ≡ take (length part) block → block ≡ filled (f (b + 1)) → length (f (b + 1)) ≡ h
    → Written f h n (b + 1) (take (h * b) key ++ (part ++ rest))
one_more f h n b end key part rest block before inside is_end size behind written filled_block whole =
    let front : List ℕ = take (h * b) key in
    let next : List ℕ = f (b + 1) in
    let all : List ℕ = flat_map f (range_with_len 1 b) in
    let place : length front ≡ h * b = length-take-le (h * b) key (omega (arith, before.len)) in
    let is_front : front ≡ all = before.so_far ∙ take_all n all (omega (arith, before.many)) in
    let fits = take-append-le (end - h * b) next (replicate (64 - length next) 0) (omega arith) in
    let put = part_put next part rest h (n - h * b) (end - h * b) whole (omega arith)
    (rw (size, filled_block, fits) at written) (omega arith) in
    let joined = next_joined f 1 b (b + 1) (omega arith) in
    let more : h * (b + 1) ≡ length front + h = omega arith in
    let reach : n ≡ length all + (n - h * b) = omega (arith, before.many) in
    record {
      len = omega (arith, length-append front (part ++ rest), length-append part rest);
      many = ap length joined ∙ omega (arith, length-append all next, before.many);
      so_far = cc (take-append-add front (part ++ rest) h, take-append-add all next (n - h * b));
    }

-- a block begins in the key
pub block_begins : (n h i : ℕ) → 0 < h → i < div_ceil n h → h * i < n
block_begins n h i some less = omega (arith, mul-le-mul_right h less, (div_ceil_times n h some).1)

-- the key before the first block is written, and after the last
pub none_written : (f : ℕ → List ℕ) (h n : ℕ) (key : List ℕ) → length key ≡ n → Written f h n 0 key
none_written f h n key len =
    let none : h * 0 ≡ 0 = omega arith in
    record { len = len; many = omega arith; so_far = rw none (sym (take_all {A = ℕ} n [] (omega arith))) }

pub all_written : (f : ℕ → List ℕ) (h n : ℕ) (key : List ℕ) → 0 < h → Written f h n (div_ceil n h) key
    → key ≡ take n (flat_map f (range_with_len 1 (div_ceil n h)))
all_written f h n key some done =
    sym (take_all (h * div_ceil n h) key (omega (arith, done.len, (div_ceil_times n h some).0))) ∙ done.so_far

zeros : (m : ℕ) → zip2 bit_xor (replicate m 0) (replicate m 0) ≡ replicate m 0
zeros zero = refl
zeros (suc m) = ap (λ xs. 0 ∷ xs) (zeros m)

before_zeros : (a b : List ℕ) (m : ℕ) → length a ≡ length b
    → zip2 bit_xor (a ++ replicate m 0) (b ++ replicate m 0) ≡ zip2 bit_xor a b ++ replicate m 0
before_zeros [] [] m same = zeros m
before_zeros [] (y ∷ b) m same = absurd (omega (arith, same))
before_zeros (x ∷ a) [] m same = absurd (omega (arith, same))
before_zeros (x ∷ a) (y ∷ b) m same = ap (λ xs. bit_xor x y ∷ xs) (before_zeros a b m (omega (arith, same)))

pub combined_filled : (a b : List ℕ) → length a ≡ length b
    → zip2 bit_xor (filled a) (filled b) ≡ filled (zip2 bit_xor a b)
combined_filled a b same =
    let size : length (zip2 bit_xor a b) ≡ length a = length-zip2 bit_xor a b same in
    let room : 64 - length b ≡ 64 - length a = omega (arith, same) in
    let both : 64 - length (zip2 bit_xor a b) ≡ 64 - length a = omega (arith, size) in
    rw (room, both) (before_zeros a b (64 - length a) same)
