-- What loops over the places of a text find.
use Rattle.ripemd_block.proofs.Library.{◌≡◌, ◌≢◌, ℕ, ◌+◌, ◌-◌, ◌<◌, true, false, List, [], ◌∷◌, ◌++◌, length, get_or, take, drop, Option, Some, None, append_assoc, arith, option_map, ne_eqb, drop_more, append-nil, length-drop, take-append-drop, take_all}
use Rattle.ripemd_files.specs.Reading.{split_close, unescaped, meant_by}

-- ---- the last closing parenthesis

-- what is found is found after anything
split_close-front : (front text before rest : List ℕ) → split_close text ≡ Some (before, rest)
    → split_close (front ++ text) ≡ Some (front ++ before, rest)
unfolding split_close
split_close-front [] text before rest found = found
split_close-front (x ∷ front) text before rest found = grind (arith, split_close-front front text before rest found)

-- as slicing gives the rest
pub split_close_found : (text : List ℕ) (i : ℕ) → i < length text → get_or text i 0 ≡ 41 → split_close (drop (i + 1) text) ≡ None
    → Some (take i text, take (length text - (i + 1)) (drop (i + 1) text)) ≡ split_close text
unfolding split_close
split_close_found text i within is none =
    grind (arith, drop_more, take_all, length-drop, take-append-drop, append-nil, split_close-front (take i text) (drop i text) [] (drop (i + 1) text))

-- ---- escapes

-- a name, with more in front
abbrev pub with_front : List ℕ → Option (List ℕ) → Option (List ℕ)
with_front front name = option_map (λ rest. front ++ rest) name

with_front-step : (front : List ℕ) (x : ℕ) (name : Option (List ℕ))
    → with_front front (option_map (λ rest. x ∷ rest) name) ≡ with_front (front ++ x ∷ []) name
with_front-step front x name = grind (arith, append_assoc)

-- a letter after a backslash
pub unescaped-letter : (front text : List ℕ) (i byte : ℕ) → i < length text → meant_by (get_or text i 0) ≡ Some byte
    → with_front front (unescaped true (drop i text)) ≡ with_front (front ++ byte ∷ []) (unescaped false (drop (i + 1) text))
unfolding unescaped
unescaped-letter front text i byte within meant =
    rw (drop_more text i 0 within, meant) (with_front-step front byte (unescaped false (drop (i + 1) text)))

pub unescaped-backslash : (text : List ℕ) (i : ℕ) → i < length text → get_or text i 0 ≡ 92
    → unescaped false (drop i text) ≡ unescaped true (drop (i + 1) text)
unfolding unescaped
unescaped-backslash text i within is = grind (arith, drop_more)

pub unescaped-plain : (front text : List ℕ) (i : ℕ) → i < length text → get_or text i 0 ≢ 92
    → with_front front (unescaped false (drop i text)) ≡ with_front (front ++ get_or text i 0 ∷ []) (unescaped false (drop (i + 1) text))
unfolding unescaped
unescaped-plain front text i within other =
    rw (drop_more text i 0 within, ne_eqb _ _ other) (with_front-step front (get_or text i 0) (unescaped false (drop (i + 1) text)))

pub ruleset unescaping = (unescaped-letter, unescaped-backslash, unescaped-plain)
