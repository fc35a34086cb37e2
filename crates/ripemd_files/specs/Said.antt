-- What a run tells: the lines that it writes, and its remarks beside them, in order.
use Rattle.std.specs.Prelude.{◌≡◌, ℕ, List, ◌++◌, map, flat_map, take, Option, Some, None, ⊤}
use Rattle.std.specs.List.{AllZip}
use Rattle.ripemd_files.specs.Types.{Error, Fault, Write, NoMemory, TooManyLines, Complaint}

-- a byte that is written, or a remark: that the file of a name can't be read, with the error, or what is wrong with a list
pub data Item : Type 0 where
  byte : ℕ → Item
  unreadable : List ℕ → Error → Item
  about_list : Complaint → Item

abbrev pub written : List ℕ → List Item
written text = map byte text

-- what was told so far, where that is known, and the error of the last call that failed
pub record Told : Type 0 where
  pub items : Option (List Item)
  pub failure : Option Error

-- known items grow by these
abbrev pub Adds : {A : Type 0} → Option (List A) → Option (List A) → List A → Type 0
Adds None new more = ⊤
Adds (Some xs) None more = ⊥
Adds (Some xs) (Some ys) more = ys ≡ xs ++ more

-- known items grow by the first of these, or by all
pub record AddsFirst {A : Type 0} (old new : Option (List A)) (items : List A) : Type 0 where
  pub first : List A
  pub rest : List A
  pub split : items ≡ first ++ rest
  pub adds : Adds old new first

-- these items were told, and no call failed
pub record Tells (old new : Told) (items : List Item) : Type 0 where
  pub adds : Adds old.items new.items items
  pub works : new.failure ≡ old.failure

-- Why a run ends before its end: a call failed with this error; or none did, and there is no memory, or there are too many
-- lines.
abbrev pub Explains : (too_many : Type 0) → Told → Told → Fault → Type 0
Explains too_many old new (Write error) = new.failure ≡ Some error
Explains too_many old new NoMemory = new.failure ≡ old.failure
Explains too_many old new TooManyLines = too_many × (new.failure ≡ old.failure)

-- a run that was to tell these items ended before its end
pub record Stops (too_many : Type 0) (old new : Told) (items : List Item) (fault : Fault) : Type 0 where
  pub told : AddsFirst old.items new.items items
  pub why : Explains too_many old new fault

-- ---- of each of some things

-- of each of these things this was found, in order; it was told, and counted
pub record TellsEach {A B C : Type 0} (IsFound : A → B → Type 0) (items_of : B → List Item) (Counts : C → List B → C → Type 0)
    (things : List A) (old new : Told) (before after : C) : Type 0 where
  pub found : List B
  pub each : AllZip IsFound things found
  pub tells : Tells old new (flat_map items_of found)
  pub counts : Counts before found after

-- or of the first of them, and the run ended when the first part of it was told
pub record TellsFirst {A B : Type 0} (IsFound : A → B → Type 0) (items_of : B → List Item) (things : List A) (old new : Told) (fault : Fault)
    : Type 0 where
  pub count : ℕ
  pub found : List B
  pub each : AllZip IsFound (take count things) found
  pub stops : Stops ⊥ old new (flat_map items_of found) fault

-- ---- as the code tells it

-- between two states these items were told, where lines that were not written yet stood at the start, and stand at the end
pub record Pends (old new : Told) (before after : List ℕ) (items : List Item) : Type 0 where
  pub now : List Item
  pub split : written before ++ items ≡ now ++ written after
  pub tells : Tells old new now
