-- A line of a digest and the name of its file, as coreutils has it for md5sum, sha256sum and their kin.
use Rattle.std.specs.Prelude.{◌≡◌, ◌≢◌, ◌⊎◌, ℕ, ◌*◌, ◌==◌, ◌||◌, Bool, false, IsTrue, if◌then◌else◌, List, [], ◌∷◌, ◌++◌, length, flat_map, codes, Option, Some, None, Ok, MatchBool, ⊤}
use Rattle.std.specs.List.{list_any, list_all}
use Rattle.hex.specs.Hex.{encode_lower, decode_of, IsBytes}
use Rattle.ripemd_files.specs.Types.{Variant, R128, R160, R256, R320, Line, Form, Text, Binary, Tagged, Layout, Standard, Reversed, Ending, Newline, Zero}

-- ---- variants

-- the length of a digest in bytes
abbrev pub size_of : Variant → ℕ
size_of R128 = 16
size_of R160 = 20
size_of R256 = 32
size_of R320 = 40

-- the length of a digest in bits, as text
abbrev pub bits_of : Variant → List ℕ
bits_of R128 = codes "128"
bits_of R160 = codes "160"
bits_of R256 = codes "256"
bits_of R320 = codes "320"

-- the label that is written, as BSD has it
abbrev pub label_of : Variant → List ℕ
label_of variant = codes "RMD" ++ bits_of variant

-- a label that is read: BSD's, or OpenSSL's, or that without its hyphen
abbrev pub IsLabel : Variant → List ℕ → Type 0
IsLabel variant label = (label ≡ label_of variant) ⊎ (label ≡ codes "RIPEMD-" ++ bits_of variant) ⊎ (label ≡ codes "RIPEMD" ++ bits_of variant)

-- ---- names

-- whether a byte is one of these: backslash, newline, carriage return
abbrev pub is_special : ℕ → Bool
is_special byte = (byte == 92) || (byte == 10) || (byte == 13)

-- a byte, escaped with a backslash if it is one of these
abbrev pub escape_of : ℕ → List ℕ
escape_of byte =
    if byte == 92 then codes "\\\\"
    else if byte == 10 then codes "\\n"
    else if byte == 13 then codes "\\r"
    else byte ∷ []

abbrev pub escaped : List ℕ → List ℕ
escaped name = flat_map escape_of name

-- text spells a name: each byte stands escaped, or, if it is no backslash, as it is
abbrev pub Spells : List ℕ → List ℕ → Type 0
Spells text [] = text ≡ []
Spells text (byte ∷ name) = (rest : List ℕ) × ((text ≡ escape_of byte ++ rest) ⊎ ((byte ≢ 92) × (text ≡ byte ∷ rest))) × Spells rest name

-- ---- lines that are written

-- a leading backslash marks a line whose name is escaped
abbrev pub mark_of : Bool → List ℕ
mark_of marked = if marked then codes "\\" else []

-- a name is escaped if it has a special byte, but not where lines end with a zero
abbrev pub is_marked : Ending → List ℕ → Bool
is_marked Newline name = list_any is_special name
is_marked Zero name = false

abbrev pub text_of : Bool → List ℕ → List ℕ
text_of marked name = if marked then escaped name else name

-- digits and the text of a name, in each form
abbrev pub body_of : Form → Variant → List ℕ → List ℕ → List ℕ
body_of Text variant digits text = digits ++ (codes "  " ++ text)
body_of Binary variant digits text = digits ++ (codes " *" ++ text)
body_of Tagged variant digits text = label_of variant ++ (codes " (" ++ (text ++ (codes ") = " ++ digits)))

-- the line of a digest and a name, without its end
abbrev pub line_of : Ending → Form → Variant → List ℕ → List ℕ → List ℕ
line_of ending form variant digest name =
    let marked = is_marked ending name in
    mark_of marked ++ body_of form variant (encode_lower digest) (text_of marked name)

abbrev pub end_of : Ending → List ℕ
end_of Newline = codes "\n"
end_of Zero = 0 ∷ []

-- a byte that ends a line, or stands before its end
abbrev pub is_end : ℕ → Bool
is_end byte = (byte == 0) || (byte == 10) || (byte == 13)

-- ---- lines that are read

-- a space or a tab
abbrev pub is_blank : ℕ → Bool
is_blank byte = (byte == 32) || (byte == 9)

-- spaces and tabs, or none
abbrev pub IsBlank : List ℕ → Type 0
IsBlank bytes = IsTrue (list_all is_blank bytes)

-- two digits for each byte of a digest, of either case
pub record IsDigest (variant : Variant) (digits digest : List ℕ) : Type 0 where
  pub twice : length digits ≡ 2 * size_of variant
  pub bytes : decode_of digits ≡ Ok digest

-- what stands between the digits and the name: a space or tab, and a space or star; in a reversed list the first alone
abbrev pub IsSeparator : Layout → List ℕ → Type 0
IsSeparator Standard separator =
    (blank : ℕ) × (kind : ℕ) × IsTrue (is_blank blank) × ((kind ≡ 32) ⊎ (kind ≡ 42)) × (separator ≡ blank ∷ kind ∷ [])
IsSeparator Reversed separator = (blank : ℕ) × IsTrue (is_blank blank) × (separator ≡ blank ∷ [])

-- `HEX  NAME`, `HEX *NAME`, or in a reversed list `HEX NAME`. The name is not empty.
pub record IsUntagged (layout : Layout) (body digits text : List ℕ) : Type 0 where
  pub separator : List ℕ
  pub is_separator : IsSeparator layout separator
  pub named : text ≢ []
  pub whole : body ≡ digits ++ (separator ++ text)

-- `RMD160 (NAME) = HEX`, with the space after the label or not, and any blanks round the equals sign
pub record IsTagged (body : List ℕ) (variant : Variant) (digits text : List ℕ) : Type 0 where
  pub label : List ℕ
  pub space : List ℕ
  pub before : List ℕ
  pub after : List ℕ
  pub is_label : IsLabel variant label
  pub is_space : (space ≡ []) ⊎ (space ≡ codes " ")
  pub is_before : IsBlank before
  pub is_after : IsBlank after
  pub whole : body ≡ label ++ (space ++ (codes "(" ++ (text ++ (codes ")" ++ (before ++ (codes "=" ++ (after ++ digits)))))))

-- A line of a digest and a name, without its end: blanks, the mark of an escaped name or none, and one of
-- the two forms. No name has a byte 0.
pub record IsLine (layout : Layout) (line : List ℕ) (variant : Variant) (digest name : List ℕ) : Type 0 where
  pub indent : List ℕ
  pub marked : Bool
  pub body : List ℕ
  pub digits : List ℕ
  pub text : List ℕ
  pub is_indent : IsBlank indent
  pub whole : line ≡ indent ++ (mark_of marked ++ body)
  pub form : IsUntagged layout body digits text ⊎ IsTagged body variant digits text
  pub is_digest : IsDigest variant digits digest
  pub spelled : MatchBool marked (Spells text name) (text ≡ name)
  pub no_zero : list_any (λ byte. byte == 0) name ≡ false

-- what was found is this
abbrev pub Says : Option Line → Variant → List ℕ → List ℕ → Type 0
Says (Some line) variant digest name = (line.variant ≡ variant) × (line.digest.items ≡ digest) × (line.name.items ≡ name)
Says None variant digest name = ⊥

-- ---- both

-- a tagged line is read in any list, an untagged one in a standard list, if its name is not empty
abbrev pub IsReadable : Layout → Form → List ℕ → Type 0
IsReadable layout Tagged name = ⊤
IsReadable Standard form name = name ≢ []
IsReadable Reversed form name = ⊥

-- what can be written and read again: a digest of the variant's length, and a name without a zero
pub record RoundTrips (layout : Layout) (form : Form) (variant : Variant) (digest name : List ℕ) : Type 0 where
  pub size : length digest ≡ size_of variant
  pub bytes : IsBytes digest
  pub readable : IsReadable layout form name
  pub no_zero : list_any (λ byte. byte == 0) name ≡ false
