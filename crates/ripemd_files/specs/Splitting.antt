-- How a list of lines is split.
use Rattle.std.specs.Prelude.{◌≡◌, ◌≢◌, ◌⊎◌, ℕ, ◌==◌, false, if◌then◌else◌, List, [], ◌∷◌, ◌++◌, Option, IfSome}
use Rattle.std.specs.List.{list_any, onto_first}
use Rattle.std.specs.Io.KnownBytes.{Consumes, IsAtEnd}
use Rattle.std.specs.Io.Buffered.{reader_remaining}
use Rattle.ripemd_files.specs.declared.piece.List.{List as Reader}
use Rattle.ripemd_files.specs.Types.{Piece, Whole, Last, Nothing, Stage}
use Rattle.ripemd_files.specs.declared.piece.Piece.TheVariants.{Failed}
use Rattle.ripemd_files.specs.declared.piece.Stage.TheVariants as stages

-- the lines of a list, without the newlines that end them; after the last newline there is none
unfoldable pub lines_of : List ℕ → List (List ℕ)
lines_of [] = []
lines_of (byte ∷ rest) = if byte == 10 then [] ∷ lines_of rest else onto_first byte (lines_of rest)

-- ---- as they are read

-- what is left of a list, where that is known, and how far it was read
pub record ListState : Type 0 where
  pub left : Option (List ℕ)
  pub stage : Stage

-- if it was known what is left, nothing is left now
abbrev pub IsEnded : Option (List ℕ) → Option (List ℕ) → Type 0
IsEnded old new = IfSome old (λ _. IsAtEnd new)

-- a text without this byte
abbrev pub IsWithout : ℕ → List ℕ → Type 0
IsWithout byte text = list_any (λ x. x == byte) text ≡ false

-- a text without a newline
abbrev pub IsOneLine : List ℕ → Type 0
IsOneLine text = IsWithout 10 text

-- whole lines: the last one ends with a newline, too
abbrev pub IsWhole : List ℕ → Type 0
IsWhole bytes = (bytes ≡ []) ⊎ ((front : List ℕ) × (bytes ≡ front ++ 10 ∷ []))

-- what was read of pieces that this byte ends, and the text of it
abbrev pub IsPiece : ℕ → Option (List ℕ) → Option (List ℕ) → List ℕ → Piece → Type 0
IsPiece byte old new text Whole = Consumes old new (text ++ byte ∷ []) × IsWithout byte text
IsPiece byte old new text Last = Consumes old new text × IsEnded old new × (text ≢ []) × IsWithout byte text
IsPiece byte old new text Nothing = Consumes old new [] × IsEnded old new
IsPiece byte old new text (Failed error) = Consumes old new text × IsWithout byte text

-- how far a text is read with a piece
abbrev pub stage_after : Piece → Stage
stage_after Whole = stages.Among
stage_after Last = stages.Ended
stage_after Nothing = stages.Ended
stage_after (Failed error) = stages.Failed

-- some bytes of the list were read
abbrev pub ReadsOn : Option (List ℕ) → Option (List ℕ) → Type 0
ReadsOn old new = (bytes : List ℕ) × Consumes old new bytes

-- the state of a list that is read through a buffer
abbrev pub state_of : {R : Type 0} → (R → Option (List ℕ)) → Reader R → ListState
state_of remaining list = record { left = reader_remaining remaining list.reader; stage = list.stage }
