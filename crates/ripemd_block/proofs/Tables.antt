-- Tables that list the values of a function.
use Rattle.ripemd_block.proofs.Library.{◌≡◌, ℕ, ◌<◌, List, [], length, get_or, map, refl, arith, range_with_len, get_or-map-range_with_len, fill_by_all}

pub value_at : {X : Type 0} (f : ℕ → X) (n i : ℕ) (d : X) → i < n → get_or (map f (range_with_len 0 n)) i d ≡ f i
value_at f n i d within = search (arith, get_or-map-range_with_len)

-- of a table with rows
pub entry_at : (f : ℕ → ℕ → ℕ) (m n r i d : ℕ) → r < m → i < n
    → get_or (get_or (map (λ r. map (f r) (range_with_len 0 n)) (range_with_len 0 m)) r []) i d ≡ f r i
entry_at f m n r i d row column =
    rw (value_at (λ r. map (f r) (range_with_len 0 n)) m r [] row) (value_at (f r) n i d column)

pub elements : {X : Type 0} (n : ℕ) (d : X) (xs : List X) → length xs ≡ n
    → xs ≡ map (λ i. get_or xs i d) (range_with_len 0 n)
elements n d xs size = fill_by_all (λ i. get_or xs i d) xs n d size (λ i within. refl)
