-- What the vectors of `replay` hold while it runs, against the machine.
use Rattle.ripemd_block.proofs.Library.{◌≡◌, ℕ, ◌<◌, refl, sym, ◌∙◌, ap, arith, List, [], ◌∷◌, ◌++◌, map, length, get_or, set, Result, Ok, Err, IsOk, OnOk, IfErr, MatchResult, map-append, map-set, length-map, get_or-map, All-push, All-get_or}
use Rattle.ripemd_block.specs.States.{HashState, initial_state}
use Rattle.ripemd_block.specs.Laws.Pieces.{fed_nothing}
use Rattle.ripemd.specs.Types.{Command, ReplayError, OutOfMemory}
use Rattle.ripemd.specs.Replay.{History, Machine, from_state, state, Grows, Does, Runs, Explains, add_hasher, set_hasher, add_saved, add_digest}
use Rattle.ripemd.specs.Held.{Holds}

-- ---- lists with equal images

module _ {A B C : Type 0} (f : A → C) (g : B → C) (xs : List A) (ys : List B) (same : map f xs ≡ map g ys) where
  same_length : length xs ≡ length ys
  same_length = omega (arith, length-map xs f, length-map ys g, ap length same)

  same_at : (i : ℕ) (x : A) (y : B) → i < length xs → f (get_or xs i x) ≡ g (get_or ys i y)
  same_at i x y here =
      let there : i < length ys = omega (arith, same_length) in
      sym (get_or-map f xs i x (f x) here) ∙ ap (λ (zs : List C). get_or zs i (f x)) same
      ∙ get_or-map g ys i y (f x) there

-- ---- the state of a new history

pub state_new : (step : List ℕ → List ℕ → List ℕ) (start : List ℕ)
    → initial_state start ≡ state step (from_state (initial_state start))
state_new step start = sym (fed_nothing step (initial_state start) (omega arith) (omega arith))

-- ---- what a load answers

-- if there can be no error, there is a value
pub is_ok_unless : {T E P : Type 0} (r : Result T E) → IfErr r (λ _. P) → (P → ⊥) → IsOk r
is_ok_unless (Ok x) err never = refl
is_ok_unless (Err e) err never = absurd (never err)

-- ---- the vectors

module _ {D S O : Type 0} {step : List ℕ → List ℕ → List ℕ} {is_valid : HashState → Type 0}
    {state_bytes : HashState → List ℕ} {meaning : D → HashState} {saved_bytes : S → List ℕ} {bytes_of : O → List ℕ}
    {hashers : List D} {arrays : List S} {digests : List O} {m : Machine}
    (held : Holds step is_valid state_bytes meaning saved_bytes bytes_of hashers arrays digests m) where
  pub hasher_count : length hashers ≡ length m.hashers
  hasher_count = same_length meaning (state step) hashers m.hashers held.states

  pub saved_count : length arrays ≡ length m.saved
  saved_count = same_length saved_bytes (λ h. state_bytes (state step h)) arrays m.saved held.saved

  -- the hasher of a number has the state of that number's history
  pub hasher_at : (i : ℕ) {x : D} (h : History) → i < length hashers → x ≡ get_or hashers i x
      → meaning x ≡ state step (get_or m.hashers i h)
  hasher_at i {x} h here is = ap meaning is ∙ same_at meaning (state step) hashers m.hashers held.states i x h here

  -- the array of a number is what the state of that number's history is saved as
  pub array_at : (i : ℕ) {x : S} (h : History) → i < length arrays → x ≡ get_or arrays i x
      → saved_bytes x ≡ state_bytes (state step (get_or m.saved i h))
  array_at i {x} h here is =
      ap saved_bytes is
      ∙ same_at saved_bytes (λ (h : History). state_bytes (state step h)) arrays m.saved held.saved i x h here

  pub valid_at : (i : ℕ) (h : History) → i < length arrays → is_valid (state step (get_or m.saved i h))
  valid_at i h here =
      All-get_or (λ h. is_valid (state step h)) m.saved i h (omega (arith, saved_count)) held.valid

  pub hasher_added : {x : D} (h : History) {more : List D} → meaning x ≡ state step h → more ≡ hashers ++ x ∷ []
      → Holds step is_valid state_bytes meaning saved_bytes bytes_of more arrays digests (add_hasher m h)
  hasher_added h same added = grind (arith, map-append)

  pub hasher_set : (i : ℕ) {x : D} (h : History) → meaning x ≡ state step h
      → Holds step is_valid state_bytes meaning saved_bytes bytes_of (set hashers i x) arrays digests (set_hasher m i h)
  hasher_set i h same = grind (arith, map-set)

  pub array_added : {a : S} (h : History) {more : List S} → saved_bytes a ≡ state_bytes (state step h)
      → is_valid (state step h) → more ≡ arrays ++ a ∷ []
      → Holds step is_valid state_bytes meaning saved_bytes bytes_of hashers more digests (add_saved m h)
  array_added h same valid added =
      let all = All-push (λ h. is_valid (state step h)) m.saved h held.valid valid in grind (arith, map-append)

  pub digest_added : {d : O} {digest : List ℕ} {more : List O} → bytes_of d ≡ digest → more ≡ digests ++ d ∷ []
      → Holds step is_valid state_bytes meaning saved_bytes bytes_of hashers arrays more (add_digest m digest)
  digest_added same added = grind (arith, map-append)

  -- a good command that adds something does so, or the error is the one of memory
  pub grown : {D' S' O' T F : Type 0} {meaning' : D' → HashState} {saved_bytes' : S' → List ℕ} {bytes_of' : O' → List ℕ}
      {hashers' : List D'} {arrays' : List S'} {digests' : List O'} (start : List ℕ) (output : List ℕ → List ℕ)
      (place : ℕ) (r : Result T ReplayError) {c d : Command} {n : Machine} → c ≡ d → Grows d
      → Does start step output is_valid state_bytes d m n → OnOk r F → IfErr r (λ e. e ≡ OutOfMemory)
      → (F → Holds step is_valid state_bytes meaning' saved_bytes' bytes_of' hashers' arrays' digests' n)
      → MatchResult r
      (λ _. (n : Machine) × Does start step output is_valid state_bytes c m n
      × Holds step is_valid state_bytes meaning' saved_bytes' bytes_of' hashers' arrays' digests' n)
      (Explains start step output is_valid state_bytes m place c)
  grown start output place (Ok x) is grows does ok err holds = (_, rw is does, holds ok)
  grown start output place (Err e) is grows does ok err holds = rw (err, is) (grows, (_, does))

-- ---- the run

module _ (start : List ℕ) (step : List ℕ → List ℕ → List ℕ) (output : List ℕ → List ℕ)
    (is_valid : HashState → Type 0) (state_bytes : HashState → List ℕ) where
  -- a run goes on by one command
  pub runs_more : (cs : List Command) (c : Command) (m n k : Machine)
      → Runs start step output is_valid state_bytes cs m n → Does start step output is_valid state_bytes c n k
      → Runs start step output is_valid state_bytes (cs ++ c ∷ []) m k
  runs_more [] c m n k same does = (k, rw same at does, refl)
  runs_more (b ∷ cs) c m n k (i, first, others) does = (i, first, runs_more cs c i n k others does)
