-- The laws of the machine of `replay`, for its callers.
use Rattle.std.proofs.Common.{◌≡◌, ◌≢◌, ℕ, zero, suc, ◌+◌, ◌<◌, inl, inr, refl, sym, ◌∙◌, arith, List, [], ◌∷◌, length, take, length-append, Some}
use Rattle.std.specs.Prelude.{⊤}
use Rattle.std.proofs.Math.Seq.{take-length}
use Rattle.std.proofs.lemmas.Bool.{cases_order}
use Rattle.std.proofs.lemmas.Option.{slice_get_within}
use Rattle.std.proofs.lemmas.List.{length-set}
use Rattle.std.specs.List.{slice_get}
use Rattle.ripemd_block.specs.Standard.{word_bytes, Parameters, compress, hash, ripemd}
use Rattle.ripemd_block.specs.States.{HashState, initial_state, new_state}
use Rattle.ripemd_block.specs.Laws.Pieces.{finish_fed}
use Rattle.ripemd.specs.Types.{Command, New, Update, Import, ReplayError, BadState, OutOfMemory}
use Rattle.ripemd.specs.Replay.{Machine, empty_machine, from_state, feed, digest, Grows, Does, Runs, Gives, Explains, Stops}

-- the digest of a history from a new hasher is the hash of its bytes
pub digest_of_new : (start : List ℕ) (step : List ℕ → List ℕ → List ℕ) (output : List ℕ → List ℕ) (bytes : List ℕ)
    → digest step output (feed (from_state (initial_state start)) bytes) ≡ hash start step output bytes
digest_of_new = finish_fed

-- of the four hashers it is the digest of the variant
pub ripemd_of_new : (v : Parameters) (bytes : List ℕ)
    → digest (compress v) word_bytes (feed (from_state (new_state v)) bytes) ≡ ripemd v bytes
ripemd_of_new v = finish_fed v.start (compress v) word_bytes

-- how many things a machine has
abbrev pub size : Machine → ℕ
size m = length m.hashers + length m.saved + length m.digests

module _ (start : List ℕ) (step : List ℕ → List ℕ → List ℕ) (output : List ℕ → List ℕ)
    (is_valid : HashState → Type 0) (state_bytes : HashState → List ℕ) where
  -- ---- lists that run out of memory

  pub grows : (c : Command) (m n : Machine) → Does start step output is_valid state_bytes c m n → Grows c
      → size n ≡ size m + 1
  grows (Import x) m n (h, valid, same, is) room = rw is (omega (arith, length-append m.hashers))
  grows _ m n does room =
      grind (arith, length-append m.hashers, length-append m.saved, length-append m.digests, length-set m.hashers)

  pub keeps_its_size : (c : Command) (m n : Machine) → Does start step output is_valid state_bytes c m n → ¬ Grows c
      → size n ≡ size m
  keeps_its_size (Update i x) m n does room = rw does.1 (omega (arith, length-set m.hashers))
  keeps_its_size _ m n does room = grind (arith, length-set m.hashers)

  -- the commands that are good at the start
  abbrev pub IsGoodFirst : Command → Type 0
  IsGoodFirst New = ⊤
  IsGoodFirst (Import bytes) = (h : HashState) × is_valid h × (state_bytes h ≡ bytes.now)
  IsGoodFirst _ = ⊥

  good_first : (c : Command) (n : Machine) → Does start step output is_valid state_bytes c empty_machine n
      → IsGoodFirst c
  good_first (Import x) n (h, valid, same, is) = (h, valid, same)
  good_first _ n does = grind arith

  first_at : (cs : List Command) (place : ℕ) (c : Command) (m n : Machine)
      → Runs start step output is_valid state_bytes (take place cs) empty_machine m → slice_get cs place ≡ Some c
      → Does start step output is_valid state_bytes c m n
      → (c : Command) × (slice_get cs 0 ≡ Some c) × IsGoodFirst c
  first_at [] place c m n before at does = absurd (cc)
  first_at (b ∷ cs) zero c m n before at does = (c, at, good_first c n (rw before at does))
  first_at (b ∷ cs) (suc place) c m n (i, first, others) at does = (b, refl, good_first b i first)

  -- with `OutOfMemory` the list begins with such a command
  pub first_of_refused : (cs : List Command) → Stops start step output is_valid state_bytes cs OutOfMemory
      → (c : Command) × (slice_get cs 0 ≡ Some c) × IsGoodFirst c
  first_of_refused cs stops =
      let (n, does) = stops.reason.1 in
      first_at cs stops.place stops.command stops.machine n stops.before stops.command_is does

  -- ---- what an error explains

  -- a good command names a hasher or a saved state that is there, or imports the bytes of a state: so only
  -- `OutOfMemory` can explain it
  bad_or_refused : (m n : Machine) (place : ℕ) (c : Command) (error : ReplayError)
      → Does start step output is_valid state_bytes c m n
      → Explains start step output is_valid state_bytes m place c error → error ≡ OutOfMemory
  bad_or_refused m n place (Import y) (BadState at) (h, valid, same, is) (here, (x, named, none)) =
      absurd (none h valid (cc))
  bad_or_refused m n place _ _ does reason = grind arith

  -- a command has one bad error at a place, on any machines
  one_reason : (m n : Machine) (place : ℕ) (c : Command) (e f : ReplayError) → Explains start step output is_valid state_bytes m place c e
      → Explains start step output is_valid state_bytes n place c f → e ≢ OutOfMemory → f ≢ OutOfMemory → e ≡ f
  one_reason m n place _ _ _ reason other bad too = grind arith

  -- the commands before an earlier place, and the one there
  run_before : (cs : List Command) (m n : Machine) (place end : ℕ) (c : Command) → place < end
      → Runs start step output is_valid state_bytes (take end cs) m n → slice_get cs place ≡ Some c
      → (k l : Machine) × Runs start step output is_valid state_bytes (take place cs) m k
      × Does start step output is_valid state_bytes c k l
  run_before [] m n place end c less runs at = absurd (cc)
  run_before (b ∷ cs) m n place zero c less runs at = absurd (omega arith)
  run_before (b ∷ cs) m n zero (suc end) c less (i, does, others) at =
      let same : b ≡ c = cc in (m, i, refl, rw same at does)
  run_before (b ∷ cs) m n (suc place) (suc end) c less (i, does, others) at =
      let (k, l, before, here) = run_before cs i n place end c (omega arith) others at in
      (k, l, (i, does, before), here)

  -- ---- one answer, where bytes are saved of one state

  module _ (state_injective : (g h : HashState) → is_valid g → is_valid h → state_bytes g ≡ state_bytes h → g ≡ h) where
    pub does_once : (c : Command) (m n k : Machine) → Does start step output is_valid state_bytes c m n
        → Does start step output is_valid state_bytes c m k → n ≡ k
    does_once (Import x) m n k (g, valid_g, same_g, a) (h, valid_h, same_h, b) =
        let same : g ≡ h = state_injective g h valid_g valid_h (same_g ∙ sym same_h) in cc
    does_once _ m n k a b = cc

    pub runs_once : (cs : List Command) (m n k : Machine) → Runs start step output is_valid state_bytes cs m n
        → Runs start step output is_valid state_bytes cs m k → n ≡ k
    runs_once [] m n k a b = a ∙ sym b
    runs_once (c ∷ cs) m n k (i, a, rest) (j, b, others) =
        runs_once cs j n k (rw (does_once c m i j a b) at rest) others

    -- a list gives one list of digests
    pub gives_once : (cs : List Command) (ds es : List (List ℕ)) → Gives start step output is_valid state_bytes cs ds
        → Gives start step output is_valid state_bytes cs es → ds ≡ es
    gives_once cs ds es (m, runs, are) (n, others, too) = cc (runs_once cs empty_machine m n runs others)

    -- where commands past an error's place run, the error is `OutOfMemory`
    goes_on : (cs : List Command) (e : ReplayError) (stops : Stops start step output is_valid state_bytes cs e)
        (end : ℕ) (m : Machine) → stops.place < end
        → Runs start step output is_valid state_bytes (take end cs) empty_machine m → e ≡ OutOfMemory
    goes_on cs e stops end m less runs =
        let (k, l, before, does) = run_before cs empty_machine m stops.place end stops.command less runs stops.command_is in
        let here = runs_once (take stops.place cs) empty_machine k stops.machine before stops.before in
        bad_or_refused stops.machine l stops.place stops.command e (rw here at does) stops.reason

    -- if it gives digests, only `OutOfMemory` explains anything
    pub gives_or_stops : (cs : List Command) (ds : List (List ℕ)) (e : ReplayError)
        → Gives start step output is_valid state_bytes cs ds → Stops start step output is_valid state_bytes cs e
        → e ≡ OutOfMemory
    gives_or_stops cs ds e (m, runs, are) stops =
        goes_on cs e stops (length cs) m (slice_get_within cs stops.place stops.command stops.command_is)
        (rw (take-length cs) runs)

    -- a list has one error, apart from `OutOfMemory`
    pub one_error : (cs : List Command) (e f : ReplayError) → Stops start step output is_valid state_bytes cs e
        → Stops start step output is_valid state_bytes cs f → e ≢ OutOfMemory → f ≢ OutOfMemory → e ≡ f
    one_error cs e f a b not_e not_f =
        elim (cases_order a.place b.place) [
          | inl same ↦
              let command : b.command ≡ a.command = cc (a.command_is, b.command_is) in
              one_reason a.machine b.machine a.place a.command e f a.reason (rw (← same, command) at b.reason) not_e not_f
          | inr (inl less) ↦ absurd (not_e (goes_on cs e a b.place b.machine less b.before))
          | inr (inr more) ↦ absurd (not_f (goes_on cs f b a.place a.machine more a.before))
        ]
