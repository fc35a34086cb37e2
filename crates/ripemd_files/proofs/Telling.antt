-- What is told, one thing after another.
use Rattle.ripemd_block.proofs.Library.{◌≡◌, ℕ, List, [], ◌++◌, Option, Some, None, refl, sym, ◌∙◌, append_assoc, append-nil, map-append}
use Rattle.ripemd_files.specs.Types.{Error, Fault, Write, NoMemory, TooManyLines}
use Rattle.ripemd_files.specs.Said.{Adds, AddsFirst, Explains, Item, Pends, Stops, Tells, Told, written}

adds_none : (old : Option (List Item)) → Adds old old []
adds_none None = tt
adds_none (Some xs) = sym (append-nil xs)

adds_more : (a b c : Option (List Item)) (xs ys : List Item) → Adds a b xs → Adds b c ys → Adds a c (xs ++ ys)
adds_more None b c xs ys first second = tt
adds_more (Some zs) (Some us) (Some vs) xs ys first second = rw (second, first, append_assoc) refl
adds_more (Some zs) _ _ xs ys first second = absurd (assumption)

-- ---- what is told

pub tells_none : (old : Told) → Tells old old []
tells_none old = record { adds = adds_none old.items; works = refl }

pub tells_more : (a b c : Told) (xs ys : List Item) → Tells a b xs → Tells b c ys → Tells a c (xs ++ ys)
tells_more a b c xs ys first second =
    record { adds = adds_more a.items b.items c.items xs ys first.adds second.adds; works = second.works ∙ first.works }

-- ---- and then the run ends

explains_after : (P : Type 0) (a b c : Told) (fault : Fault) → b.failure ≡ a.failure → Explains P b c fault → Explains P a c fault
explains_after P a b c (Write error) works why = why
explains_after P a b c NoMemory works why = why ∙ works
explains_after P a b c TooManyLines works why = (why.0, why.1 ∙ works)

-- after what was told
pub stops_after : (P : Type 0) (a b c : Told) (xs ys : List Item) (fault : Fault) → Tells a b xs → Stops P b c ys fault → Stops P a c (xs ++ ys) fault
stops_after P a b c xs ys fault first second = record {
  told = record {
    first = xs ++ second.told.first;
    rest = second.told.rest;
    split = rw (second.told.split, append_assoc) refl;
    adds = adds_more a.items b.items c.items xs second.told.first first.adds second.told.adds;
  };
  why = explains_after P a b c fault first.works second.why;
}

-- before what was to be told next
pub stops_before : (P : Type 0) (a b : Told) (xs ys : List Item) (fault : Fault) → Stops P a b xs fault → Stops P a b (xs ++ ys) fault
stops_before P a b xs ys fault stops =
    let told = stops.told in
    let more : AddsFirst a.items b.items (xs ++ ys) =
    record { first = told.first; rest = told.rest ++ ys; split = rw (told.split, append_assoc) refl; adds = told.adds } in
    record { told = more; why = stops.why }

-- without a call that failed
pub stops_now : (P : Type 0) (a b : Told) (xs : List Item) (fault : Fault) → Tells a b xs → ((works : b.failure ≡ a.failure) → Explains P a b fault)
    → Stops P a b xs fault
stops_now P a b xs fault tells why =
    record { told = record { first = xs; rest = []; split = sym (append-nil xs); adds = tells.adds }; why = why tells.works }

-- there is no memory
pub stops_here : (P : Type 0) (a : Told) (xs : List Item) → Stops P a a xs NoMemory
stops_here P a xs = stops_before P a a [] xs NoMemory (stops_now P a a [] NoMemory (tells_none a) (λ works. works))

pub no_memory : (P : Type 0) (a b : Told) (xs : List Item) → Tells a b xs → Stops P a b xs NoMemory
no_memory P a b xs tells = stops_now P a b xs NoMemory tells (λ works. works)

-- a call failed
pub stops_call : (P : Type 0) (a b : Told) (xs : List Item) (error : Error) → AddsFirst a.items b.items xs × (b.failure ≡ Some error)
    → Stops P a b xs (Write error)
stops_call P a b xs error call = record { told = call.0; why = call.1 }

-- not for too many lines
pub stops_for : (P : Type 0) (a b : Told) (xs : List Item) (fault : Fault) → Stops ⊥ a b xs fault → Stops P a b xs fault
stops_for P a b xs fault stops = record { told = stops.told; why = explains fault stops.why }
  where
    explains : (fault : Fault) → Explains ⊥ a b fault → Explains P a b fault
    explains TooManyLines why = absurd why.0
    explains _ why = why

-- ---- where lines are not written yet

pub pends_none : (old : Told) (lines : List ℕ) → Pends old old lines lines []
pends_none old lines = record { now = []; split = append-nil (written lines); tells = tells_none old }

-- a line more
pub pends_line : (a b : Told) (s t line : List ℕ) (xs : List Item) → Pends a b s t xs → Pends a b s (t ++ line) (xs ++ written line)
pends_line a b s t line xs before = record {
  now = before.now;
  split = rw (map-append, ← append_assoc, before.split, append_assoc) refl;
  tells = before.tells;
}

-- all were written, and a remark made
pub pends_remark : (a b c : Told) (s : List ℕ) (xs : List Item) → Tells a b (written s) → Tells b c xs → Pends a c s [] xs
pends_remark a b c s xs wrote said =
    record { now = written s ++ xs; split = sym (append-nil (written s ++ xs)); tells = tells_more a b c (written s) xs wrote said }

pub pends_more : (a b c : Told) (s t u : List ℕ) (xs ys : List Item) → Pends a b s t xs → Pends b c t u ys → Pends a c s u (xs ++ ys)
pends_more a b c s t u xs ys first second = record {
  now = first.now ++ second.now;
  split = rw (← append_assoc, first.split, append_assoc, second.split, append_assoc) refl;
  tells = tells_more a b c first.now second.now first.tells second.tells;
}

-- the run ends
pub pends_stops : (P : Type 0) (a b c : Told) (t : List ℕ) (xs ys : List Item) (fault : Fault) → Pends a b [] t xs
    → Stops P b c (written t ++ ys) fault → Stops P a c (xs ++ ys) fault
pends_stops P a b c t xs ys fault first second =
    rw (first.split, append_assoc) (stops_after P a b c first.now (written t ++ ys) fault first.tells second)

-- or the lines are written
pub pends_done : (a b c : Told) (t : List ℕ) (xs : List Item) → Pends a b [] t xs → Tells b c (written t) → Tells a c xs
pends_done a b c t xs first wrote = rw first.split (tells_more a b c first.now (written t) first.tells wrote)

pub pends_undone : (P : Type 0) (a b c : Told) (t : List ℕ) (xs : List Item) (fault : Fault) → Pends a b [] t xs → Stops P b c (written t) fault
    → Stops P a c xs fault
pends_undone P a b c t xs fault first stops = rw first.split (stops_after P a b c first.now (written t) fault first.tells stops)

-- the run ends between what was told and what was to be told next
pub stops_between : (P : Type 0) (a b c : Told) (xs ys zs : List Item) (fault : Fault) → Tells a b xs → Stops P b c ys fault
    → Stops P a c (xs ++ (ys ++ zs)) fault
stops_between P a b c xs ys zs fault first second = stops_after P a b c xs (ys ++ zs) fault first (stops_before P b c ys zs fault second)

pub stops_in : (P : Type 0) (a b : Told) (xs ys : List Item) (fault : Fault) → Stops P a b (xs ++ ys) fault → (zs : List Item)
    → Stops P a b (xs ++ (ys ++ zs)) fault
stops_in P a b xs ys fault stops zs = rw append_assoc at (stops_before P a b (xs ++ ys) zs fault stops)

-- there is no memory for a line
pub pends_no_memory : (P : Type 0) (a b : Told) (s t : List ℕ) (xs : List Item) → Pends a b s t xs → (ys : List Item)
    → Stops P a b (written s ++ (xs ++ ys)) NoMemory
pends_no_memory P a b s t xs before =
    stops_in P a b (written s) xs NoMemory
    (rw before.split (stops_before P a b before.now (written t) NoMemory (no_memory P a b before.now before.tells)))

pub ruleset telling = (tells_none, tells_more, stops_after, stops_before, stops_between, stops_in, stops_here, no_memory, stops_call, pends_none, pends_line, pends_remark, pends_no_memory)
