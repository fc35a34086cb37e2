-- The machine that `replay` runs (this repository's own): hashers and saved states, each with a number and a history,
-- the digests so far, and what each command does to these.
use Rattle.std.specs.Prelude.{◌≡◌, ◌≢◌, ℕ, ◌<◌, ◌≤◌, List, [], ◌∷◌, ◌++◌, length, take, Option, Some, None, ⊤}
use Rattle.std.specs.List.{slice_get, slice_index_or, slice_set}
use Rattle.ripemd_block.specs.States.{HashState, initial_state, fed, finish}
use Rattle.ripemd.specs.Types.{Command, New, Update, Reset, Finish, Fork, Save, Load, Import, ReplayError, NoHasher, NoSaved, BadState, OutOfMemory}

-- ---- what the machine has

-- a hasher or saved state: the state that it began from, and the bytes that it was fed since
pub record History : Type 0 where
  pub origin : HashState
  pub bytes : List ℕ

-- a history with no bytes fed yet
abbrev pub from_state : HashState → History
from_state origin = record { origin = origin; bytes = [] }

-- a history with more bytes fed
abbrev pub feed : History → List ℕ → History
feed h bytes = record h { bytes = h.bytes ++ bytes }

-- the state that a history leads to, by the step of the hash
abbrev pub state : (List ℕ → List ℕ → List ℕ) → History → HashState
state step h = fed step h.origin h.bytes

-- the digest of a history
abbrev pub digest : (List ℕ → List ℕ → List ℕ) → (List ℕ → List ℕ) → History → List ℕ
digest step output h = finish step output (state step h)

-- the history of each hasher and of each saved state, both numbered from 0, and the digests so far
pub record Machine : Type 0 where
  pub hashers : List History
  pub saved : List History
  pub digests : List (List ℕ)

-- before the first command there is nothing
abbrev pub empty_machine : Machine
empty_machine = record { hashers = []; saved = []; digests = [] }

-- one more hasher, under the next number
abbrev pub add_hasher : Machine → History → Machine
add_hasher m h = record m { hashers = m.hashers ++ h ∷ [] }

-- another history for the hasher of this number
abbrev pub set_hasher : Machine → ℕ → History → Machine
set_hasher m hasher h = record m { hashers = slice_set m.hashers hasher h }

-- one more saved state, under the next number
abbrev pub add_saved : Machine → History → Machine
add_saved m h = record m { saved = m.saved ++ h ∷ [] }

-- one more digest
abbrev pub add_digest : Machine → List ℕ → Machine
add_digest m bytes = record m { digests = m.digests ++ bytes ∷ [] }

-- ---- what a command says

-- the hasher that it is about
abbrev pub hasher_of : Command → Option ℕ
hasher_of (Update hasher bytes) = Some hasher
hasher_of (Reset hasher) = Some hasher
hasher_of (Finish hasher) = Some hasher
hasher_of (Fork hasher) = Some hasher
hasher_of (Save hasher) = Some hasher
hasher_of _ = None

-- the saved state that it is about
abbrev pub saved_of : Command → Option ℕ
saved_of (Load saved) = Some saved
saved_of _ = None

-- the bytes of the state that it hands in
abbrev pub imported : Command → Option (List ℕ)
imported (Import bytes) = Some bytes.now
imported _ = None

-- it adds a hasher, a saved state or a digest
abbrev pub Grows : Command → Type 0
Grows (Update hasher bytes) = ⊥
Grows (Reset hasher) = ⊥
Grows _ = ⊤

-- ---- what the machine does

-- for a hash with these start words, step and output. `is_valid` are the states that can occur, and `state_bytes` the
-- bytes that a state is saved as
module _ (start : List ℕ) (step : List ℕ → List ℕ → List ℕ) (output : List ℕ → List ℕ)
    (is_valid : HashState → Type 0) (state_bytes : HashState → List ℕ) where
  -- the history of a new hasher
  abbrev pub new_history : History
  new_history = from_state (initial_state start)

  -- the history of this number, where there is one
  abbrev pub history : List History → ℕ → History
  history all number = slice_index_or all number new_history

  -- a command leads from one state of the machine to another; a bad command leads nowhere
  abbrev pub Does : Command → Machine → Machine → Type 0
  Does New m n = n ≡ add_hasher m new_history
  Does (Update hasher bytes) m n =
      (hasher < length m.hashers) × (n ≡ set_hasher m hasher (feed (history m.hashers hasher) bytes.now))
  Does (Reset hasher) m n = (hasher < length m.hashers) × (n ≡ set_hasher m hasher new_history)
  Does (Finish hasher) m n =
      (hasher < length m.hashers)
      × (n ≡ add_digest (set_hasher m hasher new_history) (digest step output (history m.hashers hasher)))
  Does (Fork hasher) m n = (hasher < length m.hashers) × (n ≡ add_hasher m (history m.hashers hasher))
  Does (Save hasher) m n = (hasher < length m.hashers) × (n ≡ add_saved m (history m.hashers hasher))
  Does (Load saved) m n = (saved < length m.saved) × (n ≡ add_hasher m (history m.saved saved))
  Does (Import bytes) m n =
      (h : HashState) × is_valid h × (state_bytes h ≡ bytes.now) × (n ≡ add_hasher m (from_state h))

  -- the commands, in order, lead from one state of the machine to another
  abbrev pub Runs : List Command → Machine → Machine → Type 0
  Runs [] m n = n ≡ m
  Runs (c ∷ cs) m n = (k : Machine) × Does c m k × Runs cs k n

  -- from the empty machine, they give these digests
  abbrev pub Gives : List Command → List (List ℕ) → Type 0
  Gives commands digests = (m : Machine) × Runs commands empty_machine m × (m.digests ≡ digests)

  -- what an error says of the command at a place: it names a missing number, or imports bytes that no state is saved
  -- as, or it is good, and there was no room for what it adds
  abbrev pub Explains : Machine → ℕ → Command → ReplayError → Type 0
  Explains m place c (NoHasher at hasher) = (at ≡ place) × (hasher_of c ≡ Some hasher) × (length m.hashers ≤ hasher)
  Explains m place c (NoSaved at saved) = (at ≡ place) × (saved_of c ≡ Some saved) × (length m.saved ≤ saved)
  Explains m place c (BadState at) =
      (at ≡ place)
      × ((bytes : List ℕ) × (imported c ≡ Some bytes) × ((h : HashState) → is_valid h → state_bytes h ≢ bytes))
  Explains m place c OutOfMemory = Grows c × ((n : Machine) × Does c m n)

  -- the commands before some place run, and the error is that of the command there
  pub record Stops (commands : List Command) (error : ReplayError) : Type 0 where
    pub place : ℕ
    pub command : Command
    pub machine : Machine
    pub before : Runs (take place commands) empty_machine machine
    pub command_is : slice_get commands place ≡ Some command
    pub reason : Explains machine place command error
