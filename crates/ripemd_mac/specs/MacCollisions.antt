-- Collisions of a block function to which two texts with the same tag under one key lead (this repository's own).
use Rattle.std.specs.Prelude.{◌≡◌, ℕ, List}
use Rattle.ripemd.specs.Collisions.{IsCollision}
use Rattle.ripemd_mac.specs.declared.reduction.MacCollision.{MacCollision}
use Rattle.ripemd_mac.specs.declared.reduction.MacCollision.TheVariants.{Inner, Outer}
use Rattle.ripemd_mac.specs.Hmac.{inner_message, outer_message}

-- the inner hashes of two texts under a key agree
abbrev pub InnerAgree : (List ℕ → List ℕ) → List ℕ → List ℕ → List ℕ → Type 0
InnerAgree hash key a b = hash (inner_message hash key a) ≡ hash (inner_message hash key b)

-- a collision of two texts a and b under a key: one of the inner messages where their hashes agree, and
-- one of the outer messages where they do not
abbrev pub IsMacCollision : {S : Type 0} → (List ℕ → List ℕ) → S → (S → List ℕ → S) → List ℕ → List ℕ → List ℕ
    → MacCollision S → Type 0
IsMacCollision hash start step key a b (Inner c) =
    InnerAgree hash key a b × IsCollision start step (inner_message hash key a) (inner_message hash key b) c
IsMacCollision hash start step key a b (Outer c) =
    ¬ InnerAgree hash key a b × IsCollision start step (outer_message hash key a) (outer_message hash key b) c
