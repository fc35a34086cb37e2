-- How the code reads a line, from left to right.
use Rattle.std.specs.Prelude.{◌≡◌, ℕ, ◌*◌, ◌==◌, ◌&&◌, ◌||◌, Bool, true, false, if◌then◌else◌, List, [], ◌∷◌, ◌++◌, length, take, drop, codes, Option, Some, None, option_map, option_and_then, is_some, IfSome}
use Rattle.std.specs.List.{list_all, list_any}
use Rattle.std.specs.Option.{option_or}
use Rattle.std.specs.Result.{result_ok}
use Rattle.std.specs.Str.{bytes_eq}
use Rattle.hex.specs.Hex.{decode_of, is_hex_digit}
use Rattle.ripemd_files.specs.Types.{Variant, R128, R160, R256, R320, Layout, Standard, Reversed, Line, Parts}
use Rattle.ripemd_files.specs.Lines.{size_of, mark_of, is_blank, IsBlank, IsDigest, IsUntagged}

infixl 10 ◌>>=◌
abbrev pub ◌>>=◌ : {A B : Type 0} → Option A → (A → Option B) → Option B
o >>= f = option_and_then f o

-- what follows a prefix
abbrev pub strip : List ℕ → List ℕ → Option (List ℕ)
strip prefix bytes = if bytes_eq (take (length prefix) bytes) prefix then Some (drop (length prefix) bytes) else None

-- the text without the blanks at its front
unfoldable pub skip_blanks : List ℕ → List ℕ
skip_blanks [] = []
skip_blanks (x ∷ rest) = if is_blank x then skip_blanks rest else x ∷ rest

-- what comes before and after the first blank
unfoldable pub split_blank : List ℕ → Option (List ℕ × List ℕ)
split_blank [] = None
split_blank (x ∷ rest) = if is_blank x then Some ([], rest) else option_map (λ parts. (x ∷ parts.0, parts.1)) (split_blank rest)

-- what comes before and after the last closing parenthesis
unfoldable pub split_close : List ℕ → Option (List ℕ × List ℕ)
split_close [] = None
split_close (x ∷ rest) =
    option_or (option_map (λ parts. (x ∷ parts.0, parts.1)) (split_close rest)) (if x == 41 then Some ([], rest) else None)

-- the variant that has a number of digits
abbrev pub variant_of : ℕ → Option Variant
variant_of count =
    if count == 32 then Some R128
    else if count == 40 then Some R160
    else if count == 64 then Some R256
    else if count == 80 then Some R320
    else None

-- the length in bits at the end of a label, and what follows it
abbrev pub strip_bits : List ℕ → Option (Variant × List ℕ)
strip_bits bytes =
    option_or (option_map (λ rest. (R128, rest)) (strip (codes "128") bytes))
    (option_or (option_map (λ rest. (R160, rest)) (strip (codes "160") bytes))
    (option_or (option_map (λ rest. (R256, rest)) (strip (codes "256") bytes))
    (option_map (λ rest. (R320, rest)) (strip (codes "320") bytes))))

-- a label, and what follows it
unfoldable pub strip_label : List ℕ → Option (Variant × List ℕ)
strip_label bytes =
    option_or (strip (codes "RMD") bytes)
    (option_or (strip (codes "RIPEMD-") bytes)
    (strip (codes "RIPEMD") bytes)) >>= strip_bits

-- the variant, the digits and the text of the name
pub record Found : Type 0 where
  pub variant : Variant
  pub digits : List ℕ
  pub text : List ℕ

-- the text of a name after a blank, if there is any: in a standard list after a space or star
abbrev pub text_at : Layout → List ℕ → Option (List ℕ)
text_at Standard [] = None
text_at Standard (kind ∷ []) = None
text_at Standard (kind ∷ first ∷ others) = if (kind == 32) || (kind == 42) then Some (first ∷ others) else None
text_at Reversed [] = None
text_at Reversed (first ∷ others) = Some (first ∷ others)

unfoldable pub untagged_at : Layout → List ℕ → Option Found
untagged_at layout body = do
  parts ← split_blank body
  variant ← variant_of (length parts.0)
  text ← text_at layout parts.1
  Some (record { variant = variant; digits = parts.0; text = text })

-- without one space at its front
abbrev pub skip_space : List ℕ → List ℕ
skip_space [] = []
skip_space (x ∷ rest) = if x == 32 then rest else x ∷ rest

-- what follows a label
unfoldable pub tagged_at : Variant → List ℕ → Option Found
tagged_at variant bytes = do
  inner ← strip (codes "(") (skip_space bytes)
  parts ← split_close inner
  digits ← strip (codes "=") (skip_blanks parts.1)
  Some (record { variant = variant; digits = skip_blanks digits; text = parts.0 })

-- either form
abbrev pub either_at : Layout → Option (Variant × List ℕ) → List ℕ → Option Found
either_at layout (Some label) body = tagged_at label.0 label.1
either_at layout None body = untagged_at layout body

unfoldable pub found_at : Layout → List ℕ → Option Found
found_at layout body = either_at layout (strip_label body) body

-- the bytes of the digits, if these are of the right number
unfoldable pub digest_at : Variant → List ℕ → Option (List ℕ)
digest_at variant digits = if length digits == 2 * size_of variant then result_ok (decode_of digits) else None

-- the byte that a letter after a backslash stands for
abbrev pub meant_by : ℕ → Option ℕ
meant_by letter =
    if letter == 92 then Some 92
    else if letter == 110 then Some 10
    else if letter == 114 then Some 13
    else None

-- the name that an escaped text spells; after a backslash, escaping is true
unfoldable pub unescaped : Bool → List ℕ → Option (List ℕ)
unescaped false [] = Some []
unescaped true [] = None
unescaped false (x ∷ rest) = if x == 92 then unescaped true rest else option_map (λ name. x ∷ name) (unescaped false rest)
unescaped true (x ∷ rest) = meant_by x >>= λ byte. option_map (λ name. byte ∷ name) (unescaped false rest)

-- a name without a zero
abbrev pub without_zero : List ℕ → Option (List ℕ)
without_zero name = if list_any (λ byte. byte == 0) name then None else Some name

unfoldable pub name_at : Bool → List ℕ → Option (List ℕ)
name_at marked text = (if marked then unescaped false text else Some text) >>= without_zero

-- whether a line is marked, and its body
abbrev pub strip_mark : List ℕ → Bool × List ℕ
strip_mark [] = (false, [])
strip_mark (x ∷ rest) = if x == 92 then (true, rest) else (false, x ∷ rest)

-- the variant, the digest and the name that a line says
pub record Said : Type 0 where
  pub variant : Variant
  pub digest : List ℕ
  pub name : List ℕ

abbrev pub said_at : Layout → Bool → List ℕ → Option Said
said_at layout marked body = do
  found ← found_at layout body
  digest ← digest_at found.variant found.digits
  name ← name_at marked found.text
  Some (record { variant = found.variant; digest = digest; name = name })

unfoldable pub said_by : Layout → List ℕ → Option Said
said_by layout line = let marked = strip_mark (skip_blanks line) in said_at layout marked.0 marked.1

-- ---- what the code's types say

abbrev pub found_of : Parts → Found
found_of parts = record { variant = parts.variant; digits = parts.digits.now; text = parts.text.now }

abbrev pub said_of : Line → Said
said_of line = record { variant = line.variant; digest = line.digest.items; name = line.name.items }

-- ---- in which layout an untagged line stands: coreutils takes the layout of a list from the first of its lines that has one

-- whether so many digits count: all that a variant has, or those of one variant alone
abbrev pub is_wanted_length : Option Variant → ℕ → Bool
is_wanted_length None count = true
is_wanted_length (Some variant) count = count == 2 * size_of variant

-- what was found of a digest and a name has the digits of a digest that counts
abbrev pub has_digits : Option Variant → Option Found → Bool
has_digits only None = false
has_digits only (Some found) = is_wanted_length only (length found.digits) && list_all is_hex_digit found.digits

-- the standard layout if an untagged body has it, or else the reversed one
abbrev pub untagged_layout : Option Variant → List ℕ → Option Layout
untagged_layout only body =
    if has_digits only (untagged_at Standard body) then Some Standard
    else if has_digits only (untagged_at Reversed body) then Some Reversed
    else None

unfoldable pub layout_at : Option Variant → List ℕ → Option Layout
layout_at only body = if is_some (strip_label body) then None else untagged_layout only body

abbrev pub layout_of : Option Variant → List ℕ → Option Layout
layout_of only line = layout_at only (strip_mark (skip_blanks line)).1

-- ---- what that comes to

-- An untagged line, without its end, of a digest that counts: as Lines has it, but whatever the text of the name spells.
pub record HasLayout (only : Option Variant) (layout : Layout) (line : List ℕ) : Type 0 where
  pub indent : List ℕ
  pub marked : Bool
  pub body : List ℕ
  pub variant : Variant
  pub digits : List ℕ
  pub digest : List ℕ
  pub text : List ℕ
  pub is_indent : IsBlank indent
  pub whole : line ≡ indent ++ (mark_of marked ++ body)
  pub form : IsUntagged layout body digits text
  pub is_digest : IsDigest variant digits digest
  pub counted : IfSome only (λ one. one ≡ variant)
