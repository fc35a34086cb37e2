-- Two lists whose items belong together.
use Rattle.ripemd_block.proofs.Library.{◌≡◌, ℕ, ◌+◌, ◌<◌, ◌≤◌, List, [], ◌∷◌, ◌++◌, length, take, get_or, map, ap, ◌∙◌, arith, refl, zero, suc, take_more, length-map, get_or-map, length-take-le, take-take, take_all, AllZip-long, all_zipped_more, AllZip}
use Rattle.ripemd_files.specs.Files.{OfFirst}

-- the first of the first of some items are the first of all
pub take_within : {X : Type 0} (c n : ℕ) (xs : List X) → (m : ℕ) × (take c (take n xs) ≡ take m xs)
take_within (suc c) (suc n) (x ∷ xs) = let (m, same) = take_within c n xs in (suc m, ap (λ l. x ∷ l) same)
take_within _ _ _ = (0, refl)

-- the item of the first list at the next place
pub all_zip_next : {A B : Type 0} (R : A → B → Type 0) (xs : List A) (ys : List B) (i : ℕ) (x : A) (y : B) → i < length xs
    → get_or xs i x ≡ x → AllZip R (take i xs) ys → R x y → AllZip R (take (i + 1) xs) (ys ++ y ∷ [])
all_zip_next R xs ys i x y within is before both =
    rw (take_more xs i x within, is) (all_zipped_more R (take i xs) ys x y before both)

-- the same of what is seen of the items
pub all_zip_map_next : {A B C : Type 0} (f : C → A) (R : A → B → Type 0) (cs : List C) (ys : List B) (i : ℕ) (d : C) (y : B) → i < length cs
    → AllZip R (take i (map f cs)) ys → R (f (get_or cs i d)) y → AllZip R (take (i + 1) (map f cs)) (ys ++ y ∷ [])
all_zip_map_next f R cs ys i d y within before both =
    all_zip_next R (map f cs) ys i (f (get_or cs i d)) y (rw length-map within) (get_or-map f cs i d _ within) before both

-- what belongs to the items between them
pub all_zip_through : {A B C : Type 0} (R : A → B → Type 0) (S : B → C → Type 0) (T : A → C → Type 0) (xs : List A) (ys : List B) (zs : List C)
    → ((x : A) (y : B) (z : C) → R x y → S y z → T x z) → AllZip R xs ys → AllZip S ys zs → AllZip T xs zs
all_zip_through R S T [] [] [] joined first second = tt
all_zip_through R S T (x ∷ xs) (y ∷ ys) (z ∷ zs) joined first second =
    (joined x y z first.0 second.0, all_zip_through R S T xs ys zs joined first.1 second.1)
all_zip_through R S T _ _ _ joined first second = grind arith

-- the items at a place of two lists of which the same is made
module _ {A B C D : Type 0} (f : A → D) (g : B → C) (h : C → D) (xs : List A) (ys : List B) (same : map f xs ≡ map h (map g ys)) where
  pub same_length : length xs ≡ length ys
  same_length = omega (arith, ap length same, length-map xs f, length-map (map g ys) h, length-map ys g)

  pub same_at : (i : ℕ) (x : A) (y : B) → i < length ys → x ≡ get_or xs i x → y ≡ get_or ys i y → f x ≡ h (g y)
  same_at i x y within is_x is_y =
      rw (get_or-map f xs i x (f x) (omega (arith, within, same_length)), ← is_x) at
      rw (get_or-map h (map g ys) i (g y) (f x) (rw length-map within), get_or-map g ys i y (g y) within, ← is_y) at
      (ap (λ l. get_or l i (f x)) same)

-- the items at a place
pub all_zip_at : {A B : Type 0} (R : A → B → Type 0) (xs : List A) (ys : List B) (i : ℕ) (x : A) (y : B) → AllZip R xs ys → i < length xs
    → R (get_or xs i x) (get_or ys i y)
all_zip_at R (a ∷ xs) (b ∷ ys) zero x y zipped within = zipped.0
all_zip_at R (a ∷ xs) (b ∷ ys) (suc i) x y zipped within = all_zip_at R xs ys i x y zipped.1 (omega (arith, within))
all_zip_at R _ _ i x y zipped within = grind arith

-- what belongs to the first items
pub first_of : {A B : Type 0} (R : A → B → Type 0) (i : ℕ) (xs : List A) (ys : List B) → i ≤ length xs → AllZip R (take i xs) ys
    → (0 < length xs → 0 < length ys) → OfFirst R xs ys
first_of R i xs ys within zipped some =
    let long : length ys ≡ i = AllZip-long _ _ _ zipped ∙ length-take-le i xs within in
    record { some = some; within = omega (arith, long); each = rw long zipped }

pub all_zip_append : {A B : Type 0} (R : A → B → Type 0) (xs others : List A) (ys more : List B) → AllZip R xs ys → AllZip R others more
    → AllZip R (xs ++ others) (ys ++ more)
all_zip_append R [] others [] more first second = second
all_zip_append R (x ∷ xs) others (y ∷ ys) more first second = (first.0, all_zip_append R xs others ys more first.1 second)
all_zip_append R _ others _ more first second = absurd first

pub all_zip_take : {A B : Type 0} (R : A → B → Type 0) (n : ℕ) (xs : List A) (ys : List B) → AllZip R xs ys → AllZip R (take n xs) (take n ys)
all_zip_take R (suc n) (x ∷ xs) (y ∷ ys) zipped = (zipped.0, all_zip_take R n xs ys zipped.1)
all_zip_take R (suc n) [] [] zipped = tt
all_zip_take R _ _ _ zipped = assumption

-- what belongs to the first of the items between them
pub first_through : {A B C : Type 0} (R : A → B → Type 0) (S : B → C → Type 0) (T : A → C → Type 0) (xs : List A) (ys : List B) (zs : List C)
    → ((x : A) (y : B) (z : C) → R x y → S y z → T x z) → OfFirst R xs ys → OfFirst S ys zs → OfFirst T xs zs
first_through R S T xs ys zs joined first second = record {
  some = λ filled. second.some (first.some filled);
  within = omega (arith, first.within, second.within);
  each = all_zip_through R S T _ _ zs joined
      (rw (take-take (length zs) (length ys) xs (omega (arith, second.within))) at (all_zip_take R (length zs) _ ys first.each)) second.each;
}

-- all are the first
pub all_first : {A B : Type 0} (R : A → B → Type 0) (xs : List A) (ys : List B) → AllZip R xs ys → OfFirst R xs ys
all_first R xs ys zipped = first_of R (length xs) xs ys (omega arith) (rw (take_all (length xs) xs (omega arith)) zipped)
    (λ filled. omega (arith, filled, AllZip-long _ _ _ zipped))
