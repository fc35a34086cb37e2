-- What the program's arguments ask for.
use Rattle.std.specs.Prelude.{◌≡◌, ℕ, ◌*◌, ◌≤◌, List, [], ◌∷◌, length, codes, Ok}
use Rattle.std.specs.List.{AllPass}
use Rattle.hex.specs.Hex.{decode_of, is_hex_digit}
use Rattle.ripemd_sum.specs.Types.{Variant, R128, R160, R256, R320}

-- the name of a variant
abbrev pub name_of : Variant → List ℕ
name_of R128 = codes "128"
name_of R160 = codes "160"
name_of R256 = codes "256"
name_of R320 = codes "320"

-- no argument asks for RIPEMD-160, and one for the variant that it names
abbrev pub Chooses : List (List ℕ) → Variant → Type 0
Chooses [] v = v ≡ R160
Chooses (name ∷ []) v = name ≡ name_of v
Chooses _ v = ⊥

-- two hexadecimal digits, of either case, for each of so many bytes, at most 64
pub record IsKeyText (text : List ℕ) (count : ℕ) : Type 0 where
  pub twice : length text ≡ 2 * count
  pub most : count ≤ 64
  pub digits : AllPass is_hex_digit text

-- the arguments for a tag: the name of its variant, `hmac`, and the text of a key of so many bytes
abbrev pub ChoosesMac : List (List ℕ) → Variant → ℕ → Type 0
ChoosesMac (name ∷ word ∷ text ∷ []) v count = (name ≡ name_of v) × (word ≡ codes "hmac") × IsKeyText text count
ChoosesMac _ v count = ⊥

-- the third of these arguments stands for this key
abbrev pub HasKey : List (List ℕ) → List ℕ → Type 0
HasKey (name ∷ word ∷ text ∷ []) key = decode_of text ≡ Ok key
HasKey _ key = ⊥

-- these arguments ask for nothing
pub record AsksNothing (arguments : List (List ℕ)) : Type 0 where
  pub no_digest : (v : Variant) → ¬ Chooses arguments v
  pub no_tag : (v : Variant) (count : ℕ) → ¬ ChoosesMac arguments v count
