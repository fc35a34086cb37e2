-- The names that a file has, as they are read.
use Rattle.ripemd_files.proofs.Library.{◌≡◌, ℕ, ◌+◌, arith, length, List, [], ◌∷◌, ◌++◌, Option, map, vec_items, Global, append_assoc, Vec, length-append, map-append}
use Rattle.rmdsum.specs.Names.{MayHave, NextName, Stays, Follow}

stays : (old : Option (List ℕ)) → Stays old old
stays old = grind arith

stays_then : (old now new : Option (List ℕ)) (name : List ℕ) → Stays old now → NextName now name new → NextName old name new
stays_then old now new name stays next = grind arith

-- a name more was read
pub one_more_name : (file : List ℕ) (old now new : Option (List ℕ)) (read : List (List ℕ)) (name : List ℕ) → Follow file old read now
    → NextName now name new → MayHave file name → Follow file old (read ++ name ∷ []) new
one_more_name file old now new [] name follow next may = (new, stays_then old now new name follow next, may, stays new)
one_more_name file old now new (first ∷ read) name follow next may =
    (follow.0, follow.1, follow.2, one_more_name file follow.0 now new read name follow.3 next may)

-- the names so far are those given and those that were read
pub record SoFar (file : List ℕ) (before count : ℕ) (old now : Option (List ℕ)) (given names : List (List ℕ)) : Type 0 where
  pub read : List (List ℕ)
  pub all : names ≡ given ++ read
  pub follow : Follow file old read now
  pub counted : count ≡ before + length read

pub named : (file : List ℕ) (before count : ℕ) (old now new : Option (List ℕ)) (given : List (List ℕ)) (names : List (Vec ℕ Global)) (name : Vec ℕ Global)
    → SoFar file before count old now given (map vec_items names) → NextName now (vec_items name) new → MayHave file (vec_items name)
    → SoFar file before (count + 1) old new given (map vec_items (names ++ name ∷ []))
named file before count old now new given names name so_far next may = record {
  read = so_far.read ++ vec_items name ∷ [];
  all = rw (map-append vec_items names (name ∷ []), so_far.all) (append_assoc given so_far.read (vec_items name ∷ []));
  follow = one_more_name file old now new so_far.read (vec_items name) so_far.follow next may;
  counted = rw length-append (omega (arith, so_far.counted));
}
