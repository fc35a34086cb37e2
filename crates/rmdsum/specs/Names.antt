-- The names that a file has, each ended by a byte 0, as they are read.
use Rattle.std.specs.Prelude.{◌≡◌, ◌≢◌, ◌⊎◌, ◌+◌, ℕ, length, List, [], ◌∷◌, ◌++◌, codes, Option, Some, None, IfSome}
use Rattle.std.specs.Io.KnownBytes.{IsAtEnd}
use Rattle.std.specs.Io.Buffered.{reader_remaining}
use Rattle.std.specs.declared.io.buffered.BufReader.{BufReader}
use Rattle.ripemd_files.specs.declared.piece.Piece.TheVariants.{Whole, Last}
use Rattle.ripemd_files.specs.Splitting.{IsPiece}
use Rattle.rmdsum.specs.Types.{Wrong, Unread, Empty, Input, Entry}
use Rattle.rmdsum.specs.declared.names.Entry.TheVariants as entries

-- what is left of a file, where that is known: nothing, once it was read to its end
abbrev pub left_in : {R A : Type 0} → (R → Option (List ℕ)) → Option (BufReader R A) → Option (List ℕ)
left_in remaining None = Some []
left_in remaining (Some reader) = reader_remaining remaining reader

-- this name was read: up to a byte 0, or to the end
abbrev pub NextName : Option (List ℕ) → List ℕ → Option (List ℕ) → Type 0
NextName old name new = IsPiece 0 old new name Whole ⊎ IsPiece 0 old new name Last

-- a file may have this name: it is not empty, and not `-` if the file itself is `-`
abbrev pub MayHave : List ℕ → List ℕ → Type 0
MayHave file name = (name ≢ []) × (file ≡ codes "-" → name ≢ codes "-")

-- nothing was read
abbrev pub Stays : Option (List ℕ) → Option (List ℕ) → Type 0
Stays old new = IfSome old (λ bytes. new ≡ Some bytes)

-- What is wrong after so many names: nothing, and no more was read; or a read failed, and the file is read no more; or the next name.
-- And how many were read then: a wrong name counts, a failed read does not.
abbrev pub Ends : List ℕ → ℕ → ℕ → Option (List ℕ) → Option (List ℕ) → Option Wrong → Type 0
Ends file count now old new None = Stays old new × (now ≡ count)
Ends file count now old new (Some (Unread error)) = IsAtEnd new × (now ≡ count)
Ends file count now old new (Some (Empty number)) = NextName old [] new × (number ≡ count + 1) × (now ≡ number)
Ends file count now old new (Some Input) = NextName old (codes "-") new × (file ≡ codes "-") × (now ≡ count + 1)

-- what comes after so many names: a name, what is wrong, or the end; and how many were read then
abbrev pub IsEntry : List ℕ → ℕ → ℕ → Option (List ℕ) → Option (List ℕ) → Entry → Type 0
IsEntry file count now old new (entries.Name name) = NextName old name.items new × MayHave file name.items × (now ≡ count + 1)
IsEntry file count now old new (entries.Wrong wrong) = Ends file count now old new (Some wrong)
IsEntry file count now old new entries.End = Ends file count now old new None × IsAtEnd new

-- these names were read, one after another
abbrev pub Follow : List ℕ → Option (List ℕ) → List (List ℕ) → Option (List ℕ) → Type 0
Follow file old [] new = Stays old new
Follow file old (name ∷ names) new = (next : Option (List ℕ)) × NextName old name next × MayHave file name × Follow file next names new

-- The next names after so many of the file: those given, and then its own; and how many of it were read then, a wrong one too. There is
-- none, and nothing wrong, only at its end.
pub record Continues (file : List ℕ) (count now : ℕ) (old new : Option (List ℕ)) (given names : List (List ℕ)) (wrong : Option Wrong) : Type 0 where
  pub read : List (List ℕ)
  pub between : Option (List ℕ)
  pub all : names ≡ given ++ read
  pub follow : Follow file old read between
  pub ends : Ends file (count + length read) now between new wrong
  pub last : names ≡ [] → wrong ≡ None → IsAtEnd new
