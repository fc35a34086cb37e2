-- Lists, split into lines.
use Rattle.ripemd_block.proofs.Library.{◌≡◌, ◌≢◌, ℕ, ◌+◌, ◌-◌, ◌==◌, true, false, List, [], ◌∷◌, ◌++◌, length, take, Option, All, IfSome, refl, arith, inl, inr, append_assoc, ◌<◌, ne_eqb, list_any, StopsAt, appended_bytes, Consumes, Consumes-nil, Consumes-trans, take_through, drop_through, ends_with_byte, strip_last, DropsThrough, append-nil, take_all, take_more, All-weaker, list_any-append, list_any_none, nat_tests}
use Rattle.ripemd_files.specs.Splitting.{lines_of, IsEnded, IsWhole, IsWithout}

-- ---- the lines of a list

pub lines_first : (line rest : List ℕ) → list_any (λ x. x == 10) line ≡ false → lines_of (line ++ 10 ∷ rest) ≡ line ∷ lines_of rest
unfolding lines_of
lines_first [] rest none = refl
lines_first (x ∷ line) rest none = grind (arith, nat_tests, lines_first line rest)

pub lines_last : (line : List ℕ) → list_any (λ x. x == 10) line ≡ false → line ≢ [] → lines_of line ≡ line ∷ []
unfolding lines_of
lines_last [] none some = absurd (some refl)
lines_last (x ∷ []) none some = grind (arith, nat_tests)
lines_last (x ∷ y ∷ line) none some = grind (arith, nat_tests, lines_last (y ∷ line))

-- whole lines, and what follows them
filled : (front : List ℕ) → 0 < length (lines_of (front ++ 10 ∷ []))
unfolding lines_of
filled [] = omega arith
filled (y ∷ ys) = grind (arith, nat_tests, filled ys)

lines_behind : (front rest : List ℕ) → lines_of (front ++ 10 ∷ rest) ≡ lines_of (front ++ 10 ∷ []) ++ lines_of rest
unfolding lines_of
lines_behind [] rest = refl
lines_behind (x ∷ front) rest = grind (arith, lines_behind front rest, filled front)

pub cut : (bytes rest : List ℕ) → IsWhole bytes → lines_of (bytes ++ rest) ≡ lines_of bytes ++ lines_of rest
unfolding lines_of
cut bytes rest (inl none) = rw none refl
cut bytes rest (inr (front, ends)) = grind (arith, append_assoc, lines_behind front rest)

pub whole_more : (bytes more : List ℕ) → IsWhole bytes → IsWhole more → IsWhole (bytes ++ more)
whole_more bytes more whole (inl none) = rw (none, append-nil) whole
whole_more bytes more whole (inr (front, ends)) = inr (bytes ++ front, grind (arith, append_assoc))

-- ---- what a read through a byte took

module _ (byte : ℕ) where
  none_of : (xs : List ℕ) → All (λ x. x ≢ byte) xs → IsWithout byte xs
  none_of xs h = list_any_none (λ x. x == byte) xs (All-weaker (λ x. x ≢ byte) (λ x. (x == byte) ≡ false) (λ x other. ne_eqb x byte other) xs h)

  -- with the byte
  popped : (xs : List ℕ) → StopsAt xs byte → ends_with_byte byte xs ≡ true → (xs ≡ strip_last byte xs ++ byte ∷ []) × IsWithout byte (strip_last byte xs)
  popped xs stops ends = grind (arith, nat_tests, take_more xs (length xs - 1) 0, take_all (length xs - 1 + 1) xs, none_of (take (length xs - 1) xs))

  -- or without it
  kept : (xs : List ℕ) → StopsAt xs byte → ends_with_byte byte xs ≡ false → IsWithout byte xs
  kept xs stops ends = grind (arith, nat_tests, list_any-append, take_more xs (length xs - 1) 0, take_all (length xs - 1 + 1) xs, none_of (take (length xs - 1) xs))

  -- where it took none, nothing is left
  none_left : (xs : List ℕ) → IsWithout byte (take_through byte xs) → drop_through byte xs ≡ []
  none_left [] none = refl
  none_left (x ∷ xs) none = grind (arith, nat_tests, none_left xs)

  -- a piece was read to an empty text, and its byte popped
  pub read_whole : (old new : Option (List ℕ)) (start read text : List ℕ) → start ≡ [] → StopsAt (appended_bytes start read) byte
      → Consumes old new (appended_bytes start read) → ends_with_byte byte read ≡ true → text ≡ strip_last byte read
      → Consumes old new (text ++ byte ∷ []) × IsWithout byte text
  read_whole old new start read text empty stops taken ends is = grind (arith, popped read)

  ended : (old new : Option (List ℕ)) (start read : List ℕ) → start ≡ [] → IfSome old (λ xs. read ≡ start ++ take_through byte xs)
      → DropsThrough old new byte → IsWithout byte read → IsEnded old new
  ended old new start read empty bytes rest one = grind (arith, none_left)

  -- a text without the byte was read to an empty one
  pub read_rest : (old new : Option (List ℕ)) (start read text : List ℕ) → start ≡ [] → StopsAt (appended_bytes start read) byte
      → Consumes old new (appended_bytes start read) → ends_with_byte byte read ≡ false → text ≡ strip_last byte read
      → Consumes old new text × IsWithout byte text
  read_rest old new start read text empty stops taken ends is = grind (arith, kept read)

  -- and it was the last piece
  pub read_last : (old new : Option (List ℕ)) (start read text : List ℕ) → start ≡ [] → StopsAt (appended_bytes start read) byte
      → Consumes old new (appended_bytes start read) → IfSome old (λ xs. read ≡ start ++ take_through byte xs) → DropsThrough old new byte
      → read ≢ [] → ends_with_byte byte read ≡ false → text ≡ strip_last byte read
      → Consumes old new text × IsEnded old new × (text ≢ []) × IsWithout byte text
  read_last old new start read text empty stops taken bytes rest some ends is =
      grind (arith, kept read, ended old new start read empty bytes rest)

-- what ended ended what was there before
pub ended_since : (old now next : Option (List ℕ)) (bytes : List ℕ) → Consumes old now bytes → IsEnded now next → IsEnded old next
ended_since old now next bytes taken ends = grind arith

-- what was read so far, and then more
pub ruleset consumed = (Consumes-nil, Consumes-trans)
