-- A law for callers who know the type of the digests, and name it in `using(..)`.
use Rattle.std.proofs.Common.{◌≡◌, ℕ, List, [], ◌∷◌, map, refl, ap}

-- an array of bytes is its bytes, so digests are the list of their bytes
pub own_bytes : (digests : List (List ℕ)) → map (λ bytes. bytes) digests ≡ digests
own_bytes [] = refl
own_bytes (d ∷ digests) = ap (λ (rest : List (List ℕ)). d ∷ rest) (own_bytes digests)
