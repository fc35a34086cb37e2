-- Lines of files that contain "abc", and lists of lines. sha256sum of coreutils writes, takes and refuses the same, but for
-- those of the record Zeros, and takes the same layouts from a first line, with its digest and label in place of these
-- (tests/test_lines.py compares them). The digests are the authors'.
use Rattle.std.specs.Prelude.{◌≡◌, ℕ, List, [], ◌∷◌, ◌++◌, codes, Option, Some, None}
use Rattle.ripemd_files.specs.Types.{Variant, R128, R160, R256, R320, Form, Text, Binary, Tagged, Layout, Standard, Reversed, Ending, Newline, Zero}
use Rattle.ripemd_files.specs.Lines.{line_of, end_of, IsLine}
use Rattle.ripemd_files.specs.Splitting.{lines_of}
use Rattle.ripemd_files.specs.Reading.{layout_of}

-- the digests of "abc" as text
abbrev pub digits_of : Variant → List ℕ
digits_of R128 = codes "c14a12199c66e4ba84636b0f69144c77"
digits_of R160 = codes "8eb208f7e05d987a9b044a8e98c6b087f15a0bfc"
digits_of R256 = codes "afbd6e228b9d8cbbcef5ca2d03e6dba10ac0bc7dcbe4680e1e42d2e975459b65"
digits_of R320 = codes "de4c01b3054f8930a79d09ae738e92301e5a17085beffdc1b8d116713e74f82fa942d64cdbc4682d"

-- and as bytes
abbrev pub digest_of : Variant → List ℕ
digest_of R128 =
    0xc1 ∷ 0x4a ∷ 0x12 ∷ 0x19 ∷ 0x9c ∷ 0x66 ∷ 0xe4 ∷ 0xba ∷ 0x84 ∷ 0x63 ∷ 0x6b ∷ 0x0f ∷ 0x69 ∷ 0x14 ∷ 0x4c ∷ 0x77 ∷ []
digest_of R160 =
    0x8e ∷ 0xb2 ∷ 0x08 ∷ 0xf7 ∷ 0xe0 ∷ 0x5d ∷ 0x98 ∷ 0x7a ∷ 0x9b ∷ 0x04 ∷ 0x4a ∷ 0x8e ∷ 0x98 ∷ 0xc6 ∷ 0xb0 ∷ 0x87
    ∷ 0xf1 ∷ 0x5a ∷ 0x0b ∷ 0xfc ∷ []
digest_of R256 =
    0xaf ∷ 0xbd ∷ 0x6e ∷ 0x22 ∷ 0x8b ∷ 0x9d ∷ 0x8c ∷ 0xbb ∷ 0xce ∷ 0xf5 ∷ 0xca ∷ 0x2d ∷ 0x03 ∷ 0xe6 ∷ 0xdb ∷ 0xa1
    ∷ 0x0a ∷ 0xc0 ∷ 0xbc ∷ 0x7d ∷ 0xcb ∷ 0xe4 ∷ 0x68 ∷ 0x0e ∷ 0x1e ∷ 0x42 ∷ 0xd2 ∷ 0xe9 ∷ 0x75 ∷ 0x45 ∷ 0x9b ∷ 0x65 ∷ []
digest_of R320 =
    0xde ∷ 0x4c ∷ 0x01 ∷ 0xb3 ∷ 0x05 ∷ 0x4f ∷ 0x89 ∷ 0x30 ∷ 0xa7 ∷ 0x9d ∷ 0x09 ∷ 0xae ∷ 0x73 ∷ 0x8e ∷ 0x92 ∷ 0x30
    ∷ 0x1e ∷ 0x5a ∷ 0x17 ∷ 0x08 ∷ 0x5b ∷ 0xef ∷ 0xfd ∷ 0xc1 ∷ 0xb8 ∷ 0xd1 ∷ 0x16 ∷ 0x71 ∷ 0x3e ∷ 0x74 ∷ 0xf8 ∷ 0x2f
    ∷ 0xa9 ∷ 0x42 ∷ 0xd6 ∷ 0x4c ∷ 0xdb ∷ 0xc4 ∷ 0x68 ∷ 0x2d ∷ []

-- ---- lines that are written

-- the line of a file of this name, with its end
abbrev pub written : Ending → Form → Variant → List ℕ → List ℕ
written ending form variant name = line_of ending form variant (digest_of variant) name ++ end_of ending

-- the digits of RIPEMD-160 before and after a text
abbrev pub digits_then : List ℕ → List ℕ
digits_then text = digits_of R160 ++ text

pub record WrittenLines : Type 0 where
  pub as_text : written Newline Text R160 (codes "abc") ≡ digits_then (codes "  abc\n")
  pub tagged128 : written Newline Tagged R128 (codes "abc") ≡ codes "RMD128 (abc) = " ++ (digits_of R128 ++ codes "\n")
  pub tagged256 : written Newline Tagged R256 (codes "abc") ≡ codes "RMD256 (abc) = " ++ (digits_of R256 ++ codes "\n")

-- names with special bytes
pub record EscapedLines : Type 0 where
  pub backslash : written Newline Text R160 (codes "b\\c") ≡ codes "\\" ++ digits_then (codes "  b\\\\c\n")
  pub newline : written Newline Text R160 (codes "n\nl") ≡ codes "\\" ++ digits_then (codes "  n\\nl\n")
  pub carriage_return : written Newline Binary R160 (codes "c\rr") ≡ codes "\\" ++ digits_then (codes " *c\\rr\n")
  pub tagged : written Newline Tagged R160 (codes "b\\c") ≡ codes "\\RMD160 (b\\\\c) = " ++ digits_then (codes "\n")
  pub other_control : written Newline Text R160 (9 ∷ 11 ∷ []) ≡ digits_then (codes "  " ++ (9 ∷ 11 ∷ codes "\n"))
  pub ends_with_zero : written Zero Text R160 (codes "n\nl") ≡ digits_then (codes "  n\nl" ++ (0 ∷ []))

-- ---- lines that are read

-- a line of "abc" by RIPEMD-160 in a file of this name
abbrev pub IsLineOf : List ℕ → List ℕ → Type 0
IsLineOf name line = IsLine Standard line R160 (digest_of R160) name

-- a line of nothing
abbrev pub IsNoLine : Layout → List ℕ → Type 0
IsNoLine layout line = (variant : Variant) (digest name : List ℕ) → ¬ IsLine layout line variant digest name

pub record UntaggedLines : Type 0 where
  pub as_text : IsLineOf (codes "abc") (digits_then (codes "  abc"))
  pub as_binary : IsLineOf (codes "abc") (digits_then (codes " *abc"))
  pub upper_case : IsLineOf (codes "abc") (codes "8EB208F7E05D987A9B044A8E98C6B087F15A0BFC  abc")
  pub behind_blanks : IsLineOf (codes "abc") (codes "  \t" ++ digits_then (codes "  abc"))
  pub tab_for_a_space : IsLineOf (codes "abc") (digits_then (codes "\t abc"))
  pub space_in_the_name : IsLineOf (codes " sp") (digits_then (codes "   sp"))
  pub star_in_the_name : IsLineOf (codes "*st") (digits_then (codes "  *st"))
  pub no_text : IsLineOf (0xff ∷ 0xfe ∷ []) (digits_then (codes "  " ++ (0xff ∷ 0xfe ∷ [])))

pub record MarkedLines : Type 0 where
  pub backslash : IsLineOf (codes "b\\c") (codes "\\" ++ digits_then (codes "  b\\\\c"))
  pub newline : IsLineOf (codes "n\nl") (codes "\\" ++ digits_then (codes "  n\\nl"))
  pub carriage_return : IsLineOf (codes "c\rr") (codes "\\" ++ digits_then (codes "  c\\rr"))
  pub not_escaped : IsLineOf (codes "c\rr") (codes "\\" ++ digits_then (codes "  c\rr"))
  pub no_special_byte : IsLineOf (codes "abc") (codes "\\" ++ digits_then (codes "  abc"))
  pub behind_a_blank : IsLineOf (codes "b\\c") (codes " \\" ++ digits_then (codes "  b\\\\c"))
  pub without_mark : IsLineOf (codes "b\\c") (digits_then (codes "  b\\c"))

pub record TaggedLines : Type 0 where
  pub by_bsd : IsLineOf (codes "abc") (codes "RMD160 (abc) = " ++ digits_of R160)
  pub by_openssl : IsLineOf (codes "abc") (codes "RIPEMD-160(abc)= " ++ digits_of R160)
  pub by_older_openssl : IsLineOf (codes "abc") (codes "RIPEMD160(abc)= " ++ digits_of R160)
  pub of128 : IsLine Standard (codes "RMD128 (abc) = " ++ digits_of R128) R128 (digest_of R128) (codes "abc")
  pub of256 : IsLine Standard (codes "RIPEMD-256 (abc) = " ++ digits_of R256) R256 (digest_of R256) (codes "abc")
  pub of320 : IsLine Standard (codes "RIPEMD320 (abc) = " ++ digits_of R320) R320 (digest_of R320) (codes "abc")
  pub no_blanks : IsLineOf (codes "abc") (codes "RMD160(abc)=" ++ digits_of R160)
  pub more_blanks : IsLineOf (codes "abc") (codes "  RMD160 (abc)   =\t" ++ digits_of R160)
  pub last_parenthesis : IsLineOf (codes "x) = y") (codes "RMD160 (x) = y) = " ++ digits_of R160)
  pub no_name : IsLineOf [] (codes "RMD160 () = " ++ digits_of R160)
  pub marked : IsLineOf (codes "b\\c") (codes "\\RMD160 (b\\\\c) = " ++ digits_of R160)
  pub without_mark : IsLineOf (codes "b\\c") (codes "RMD160 (b\\c) = " ++ digits_of R160)
  pub in_a_reversed_list : IsLine Reversed (codes "RMD160 (abc) = " ++ digits_of R160) R160 (digest_of R160) (codes "abc")

pub record ReversedLines : Type 0 where
  pub one_space : IsLine Reversed (digits_then (codes " abc")) R160 (digest_of R160) (codes "abc")
  pub two_spaces : IsLine Reversed (digits_then (codes "  abc")) R160 (digest_of R160) (codes " abc")
  pub a_space : IsLine Reversed (digits_then (codes "  ")) R160 (digest_of R160) (codes " ")
  pub in_a_standard_list : IsNoLine Standard (digits_then (codes " abc"))
  pub no_name : IsNoLine Reversed (digits_then (codes " "))

-- ---- lines that are refused

pub record RefusedLines : Type 0 where
  pub empty : IsNoLine Standard []
  pub blank : IsNoLine Standard (codes " ")
  pub comment : IsNoLine Standard (codes "#x")
  pub digits_alone : IsNoLine Standard (digits_of R160)
  pub no_name : IsNoLine Standard (digits_then (codes "  "))
  pub tab_alone : IsNoLine Standard (digits_then (codes " \tabc"))
  pub one_digit_less : IsNoLine Standard (codes "8eb208f7e05d987a9b044a8e98c6b087f15a0bf  abc")
  pub one_digit_more : IsNoLine Standard (digits_then (codes "0  abc"))
  pub no_digit : IsNoLine Standard (codes "geb208f7e05d987a9b044a8e98c6b087f15a0bfc  abc")
  pub bad_escape : IsNoLine Standard (codes "\\" ++ digits_then (codes "  b\\c"))
  pub half_an_escape : IsNoLine Standard (codes "\\" ++ digits_then (codes "  b\\"))
  pub blank_behind_the_mark : IsNoLine Standard (codes "\\ " ++ digits_then (codes "  abc"))

pub record RefusedTags : Type 0 where
  pub other_tag : IsNoLine Standard (codes "SHA1 (abc) = " ++ digits_of R160)
  pub lower_case : IsNoLine Standard (codes "rmd160 (abc) = " ++ digits_of R160)
  pub other_variant : IsNoLine Standard (codes "RMD128 (abc) = " ++ digits_of R160)
  pub two_spaces : IsNoLine Standard (codes "RMD160  (abc) = " ++ digits_of R160)
  pub tab : IsNoLine Standard (codes "RMD160\t(abc) = " ++ digits_of R160)
  pub no_equals_sign : IsNoLine Standard (codes "RMD160 (abc) " ++ digits_of R160)
  pub two_equals_signs : IsNoLine Standard (codes "RMD160 (abc) == " ++ digits_of R160)
  pub not_closed : IsNoLine Standard (codes "RMD160 (abc = " ++ digits_of R160)
  pub behind_the_parenthesis : IsNoLine Standard (codes "RMD160 (abc)d = " ++ digits_of R160)
  pub blank_at_the_end : IsNoLine Standard (codes "RMD160 (abc) = " ++ digits_then (codes " "))
  pub bad_escape : IsNoLine Standard (codes "\\RMD160 (b\\c) = " ++ digits_of R160)

-- a byte 0 in a name, which coreutils takes for the end of an unmarked one
pub record Zeros : Type 0 where
  pub untagged : IsNoLine Standard (digits_then (codes "  a" ++ (0 ∷ codes "b")))
  pub tagged : IsNoLine Standard (codes "RMD160 (a" ++ (0 ∷ (codes "b) = " ++ digits_of R160)))
  pub marked : IsNoLine Standard (codes "\\" ++ digits_then (codes "  a" ++ (0 ∷ codes "b")))

-- ---- lists of lines

pub record SplitLists : Type 0 where
  pub empty : lines_of [] ≡ []
  pub two_lines : lines_of (codes "a\nb\n") ≡ codes "a" ∷ codes "b" ∷ []
  pub not_ended : lines_of (codes "a\nb") ≡ codes "a" ∷ codes "b" ∷ []
  pub empty_line : lines_of (codes "\n") ≡ [] ∷ []
  pub empty_in_between : lines_of (codes "a\n\nb\n") ≡ codes "a" ∷ [] ∷ codes "b" ∷ []
  pub carriage_return : lines_of (codes "a\r\nb\r\n") ≡ codes "a\r" ∷ codes "b\r" ∷ []

-- the layout of a line, where each variant counts
abbrev pub layout_in : List ℕ → Option Layout
layout_in line = layout_of None line

pub record StandardLayouts : Type 0 where
  pub as_text : layout_in (digits_then (codes "  abc")) ≡ Some Standard
  pub of128 : layout_in (digits_of R128 ++ codes "  abc") ≡ Some Standard
  pub of256 : layout_in (digits_of R256 ++ codes "  abc") ≡ Some Standard
  pub of320 : layout_in (digits_of R320 ++ codes "  abc") ≡ Some Standard
  pub behind_blanks : layout_in (codes " \t" ++ digits_then (codes "  abc")) ≡ Some Standard
  pub marked : layout_in (codes "\\" ++ digits_then (codes "  b\\\\c")) ≡ Some Standard
  pub bad_escape : layout_in (codes "\\" ++ digits_then (codes "  b\\c")) ≡ Some Standard
  pub zero : layout_in (digits_then (codes "  " ++ (0 ∷ codes "abc"))) ≡ Some Standard
  pub only_this : layout_of (Some R160) (digits_then (codes "  abc")) ≡ Some Standard

pub record ReversedLayouts : Type 0 where
  pub one_space : layout_in (digits_then (codes " abc")) ≡ Some Reversed
  pub tab : layout_in (digits_then (codes "\tabc")) ≡ Some Reversed
  pub a_space : layout_in (digits_then (codes "  ")) ≡ Some Reversed

pub record NoLayouts : Type 0 where
  pub empty : layout_in [] ≡ None
  pub no_digit : layout_in (codes "geb208f7e05d987a9b044a8e98c6b087f15a0bfc  abc") ≡ None
  pub blank_behind_the_mark : layout_in (codes "\\ " ++ digits_then (codes "  abc")) ≡ None
  pub tagged : layout_in (codes "RMD160 (abc) = " ++ digits_of R160) ≡ None
  pub only_another : layout_of (Some R128) (digits_then (codes "  abc")) ≡ None
