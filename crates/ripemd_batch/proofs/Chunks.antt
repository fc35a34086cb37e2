-- Chunks of n elements.
use Rattle.ripemd_block.proofs.Library.{◌≡◌, ℕ, zero, suc, ◌+◌, ◌*◌, ◌/◌, ◌<◌, ◌≤◌, mul-le-mul_right, suc-mul, arith, refl, sym, ap, ◌∙◌, List, ◌++◌, length, take, drop, slice_set, append_assoc, take_at, drop_at, length-drop, length-take-le, drop-drop, drop-append-le, nil_from_length, take-append-drop, take-append-le, div-mul-le_self, mul-div_left, first_chunks}
use Rattle.std.proofs.Common.{flat_map}
use Rattle.ripemd_batch.specs.Lanes.{chunks}

length-first : {A : Type 0} (n k : ℕ) (xs : List A) → length (first_chunks n k xs) ≡ k
length-first n zero xs = refl
length-first n (suc k) xs = ap suc (length-first n k (drop n xs))

joined_first : {A : Type 0} (n k : ℕ) (xs : List A) → length xs ≡ k * n → flat_map (λ (c : List A). c) (first_chunks n k xs) ≡ xs
joined_first n zero xs size = sym (nil_from_length xs (omega arith))
joined_first n (suc k) xs size =
    ap (λ (ys : List _). take n xs ++ ys) (joined_first n k (drop n xs) (omega (arith, suc-mul k n, length-drop n xs)))
    ∙ take-append-drop n xs

pub count_chunks : {A : Type 0} (n k : ℕ) (xs : List A) → 0 < n → length xs ≡ k * n → length (chunks n xs) ≡ k
unfolding chunks
count_chunks n k xs some size = length-first n (length xs / n) xs ∙ rw size (mul-div_left k some)

pub joined_chunks : {A : Type 0} (n k : ℕ) (xs : List A) → 0 < n → length xs ≡ k * n
    → flat_map (λ (c : List A). c) (chunks n xs) ≡ xs
unfolding chunks
joined_chunks n k xs some size =
    let count : length xs / n ≡ k = rw size (mul-div_left k some) in
    rw count (joined_first n k xs size)

pub chunk_end : {A : Type 0} (n i : ℕ) (xs : List A) → i < length (chunks n xs) → i * n + n ≤ length xs
unfolding chunks
chunk_end n i xs few =
    let within : suc i ≤ length xs / n = omega (arith, length-first n (length xs / n) xs) in
    omega (arith, suc-mul i n, mul-le-mul_right n within, div-mul-le_self (length xs) n)

-- the elements of chunk i, after i * n others, written over
put_first : {A : Type 0} (n k i : ℕ) (front old new rest : List A) → i < k → length front ≡ i * n → length old ≡ n → length new ≡ n
    → first_chunks n k (front ++ (new ++ rest)) ≡ slice_set (first_chunks n k (front ++ (old ++ rest))) i new
put_first n zero i front old new rest few before size_old size = absurd (omega arith)
put_first n (suc k) zero front old new rest few before size_old size =
    rw (nil_from_length front (omega arith), take_at new rest n size, drop_at new rest n size, drop_at old rest n size_old) refl
put_first n (suc k) (suc i) front old new rest few before size_old size =
    let fits : n ≤ length front = omega (arith, suc-mul i n) in
    let next = put_first n k i (drop n front) old new rest (omega arith) (omega (arith, suc-mul i n, length-drop n front)) size_old size in
    rw (
      take-append-le n front (new ++ rest) fits,
      drop-append-le n front (new ++ rest) fits,
      take-append-le n front (old ++ rest) fits,
      drop-append-le n front (old ++ rest) fits,
      next,
    ) refl

-- chunk i written over
pub put_chunk : {A : Type 0} (n i : ℕ) (xs ys zs : List A) → i < length (chunks n xs) → length ys ≡ n
    → zs ≡ take (i * n) xs ++ ys ++ drop (i * n + n) xs → length zs ≡ length xs
    → chunks n zs ≡ slice_set (chunks n xs) i ys
unfolding chunks
put_chunk n i xs ys zs few size put same =
    let at : ℕ = i * n in
    let k : ℕ = length xs / n in
    let fits : at + n ≤ length xs = chunk_end n i xs few in
    let old : List _ = take n (drop at xs) in
    let parts : take at xs ++ (old ++ drop (at + n) xs) ≡ xs =
    rw (← drop-drop n at xs, take-append-drop n (drop at xs)) (take-append-drop at xs) in
    ap (λ (len : ℕ). first_chunks n (len / n) zs) same
    ∙ ap (first_chunks n k) (put ∙ append_assoc (take at xs) ys (drop (at + n) xs))
    ∙ put_first n k i (take at xs) old ys (drop (at + n) xs) (omega (arith, length-first n k xs)) (length-take-le at xs (omega arith))
    (length-take-le n (drop at xs) (omega (arith, length-drop at xs))) size
    ∙ ap (λ (all : List _). slice_set (first_chunks n k all) i ys) parts
