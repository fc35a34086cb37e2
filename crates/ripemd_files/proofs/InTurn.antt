-- Of things in turn something is found, told and counted.
use Rattle.ripemd_block.proofs.Library.{◌≡◌, ℕ, ◌+◌, ◌-◌, ◌<◌, ◌≤◌, List, [], ◌∷◌, ◌++◌, length, take, drop, get_or, refl, arith, append-nil, take_all, take-add, AllZip, flat_map-append}
use Rattle.std.proofs.Common.{flat_map}
use Rattle.ripemd_files.specs.Types.{Fault, NoMemory}
use Rattle.ripemd_files.specs.Said.{Item, Pends, Stops, Tells, TellsEach, TellsFirst, Told, written}
use Rattle.ripemd_files.proofs.Telling.{no_memory, pends_done, pends_more, pends_none, pends_stops, pends_undone, stops_after, tells_more, tells_none}
use Rattle.ripemd_files.proofs.Zips.{all_zip_append, all_zip_next, take_within}

-- what was found of some things was told, but for lines that are not written yet
pub record TellsSoFar {A B C : Type 0} (IsFound : A → B → Type 0) (items_of : B → List Item) (Counts : C → List B → C → Type 0)
    (things : List A) (old new : Told) (lines : List ℕ) (before after : C) : Type 0 where
  pub found : List B
  pub each : AllZip IsFound things found
  pub pends : Pends old new [] lines (flat_map items_of found)
  pub counts : Counts before found after

module _ {A B C : Type 0} {IsFound : A → B → Type 0} {items_of : B → List Item} {Counts : C → List B → C → Type 0}
    (none : (n : C) → Counts n [] n)
    (more : (n m k : C) (xs ys : List B) → Counts n xs m → Counts m ys k → Counts n (xs ++ ys) k) where
  -- of no thing
  pub so_far_none : (old : Told) (n : C) → TellsSoFar IsFound items_of Counts [] old old [] n n
  so_far_none old n = record { found = []; each = tt; pends = pends_none old []; counts = none n }

  pub each_none : (old : Told) (n : C) → TellsEach IsFound items_of Counts [] old old n n
  each_none old n = record { found = []; each = tt; tells = tells_none old; counts = none n }

  -- of the next thing
  module _ (things : List A) (k : ℕ) {a b : Told} {lines : List ℕ} {n m : C} (before : TellsSoFar IsFound items_of Counts (take k things) a b lines n m)
      (thing : A) (one : B) (within : k < length things) (is : get_or things k thing ≡ thing) (found : IsFound thing one) where
    each_next : AllZip IsFound (take (k + 1) things) (before.found ++ one ∷ [])
    each_next = all_zip_next IsFound things before.found k thing one within is before.each found

    with_it : flat_map items_of (before.found ++ one ∷ []) ≡ flat_map items_of before.found ++ items_of one
    with_it = rw (flat_map-append, append-nil) refl

    pub so_far_next : (c : Told) (others : List ℕ) (next : C) → Pends b c lines others (items_of one) → Counts m (one ∷ []) next
        → TellsSoFar IsFound items_of Counts (take (k + 1) things) a c others n next
    so_far_next c others next pends counts = record {
      found = before.found ++ one ∷ [];
      each = each_next;
      pends = rw with_it (pends_more a b c [] lines others _ _ before.pends pends);
      counts = more n m next before.found (one ∷ []) before.counts counts;
    }

    -- where the run ends
    pub first_next : (c : Told) (fault : Fault) → Stops ⊥ b c (written lines ++ items_of one) fault → TellsFirst IsFound items_of things a c fault
    first_next c fault stops = record {
      count = k + 1;
      found = before.found ++ one ∷ [];
      each = each_next;
      stops = rw with_it (pends_stops ⊥ a b c lines _ _ fault before.pends stops);
    }

  -- of all of them
  module _ (things : List A) (k : ℕ) {a b : Told} {lines : List ℕ} {n m : C} (before : TellsSoFar IsFound items_of Counts (take k things) a b lines n m) where
    pub each_written : (c : Told) → length things ≤ k → Tells b c (written lines) → TellsEach IsFound items_of Counts things a c n m
    each_written c over wrote = record {
      found = before.found;
      each = rw (take_all k things over) at before.each;
      tells = pends_done a b c lines _ before.pends wrote;
      counts = before.counts;
    }

    pub first_unwritten : (c : Told) (fault : Fault) → Stops ⊥ b c (written lines) fault → TellsFirst IsFound items_of things a c fault
    first_unwritten c fault stops =
        record { count = k; found = before.found; each = before.each; stops = pends_undone ⊥ a b c lines _ fault before.pends stops }

  -- of those from a place on, after those before it
  module _ (things : List A) (start : ℕ) {a b : Told} {n m : C} (before : TellsEach IsFound items_of Counts (take start things) a b n m) where
    pub each_on : (c : Told) (end : ℕ) (next : C) → start ≤ end
        → TellsEach IsFound items_of Counts (take (end - start) (drop start things)) b c m next
        → TellsEach IsFound items_of Counts (take end things) a c n next
    each_on c end next le after =
        let same : start + (end - start) ≡ end = omega (arith, le) in
        record {
          found = before.found ++ after.found;
          each = rw (← take-add, same) at (all_zip_append IsFound _ _ _ _ before.each after.each);
          tells = rw flat_map-append (tells_more a b c _ _ before.tells after.tells);
          counts = more n m next before.found after.found before.counts after.counts;
        }

    -- or of the first of these
    pub first_on : (c : Told) (end : ℕ) (fault : Fault) → TellsFirst IsFound items_of (take (end - start) (drop start things)) b c fault
        → TellsFirst IsFound items_of things a c fault
    first_on c end fault after =
        let (count, same) = take_within after.count (end - start) (drop start things) in
        record {
          count = start + count;
          found = before.found ++ after.found;
          each = rw (same, ← take-add) at (all_zip_append IsFound _ _ _ _ before.each after.each);
          stops = rw flat_map-append (stops_after ⊥ a b c _ _ fault before.tells after.stops);
        }

    -- there is no memory for the next
    pub first_all : TellsFirst IsFound items_of things a b NoMemory
    first_all = record { count = start; found = before.found; each = before.each; stops = no_memory ⊥ a b _ before.tells }
