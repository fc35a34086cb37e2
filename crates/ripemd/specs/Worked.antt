-- Worked examples of collisions and of `replay`'s machine, as facts of the definitions.
use Rattle.std.specs.Prelude.{◌≡◌, ◌≢◌, ℕ, ◌+◌, ◌%◌, List, [], ◌∷◌, ◌++◌, replicate, None}
use Rattle.std.specs.List.{flat_map}
use Rattle.std.specs.Borrow.{Bor}
use Rattle.ripemd_block.specs.Standard.{padded_message, blocks}
use Rattle.ripemd_block.specs.States.{HashState, initial_state, fed, finish}
use Rattle.ripemd.specs.Types.{Collision, Command, New, Update, Reset, Finish, Fork, Save, Load, Import, ReplayError, NoHasher, NoSaved, BadState, OutOfMemory}
use Rattle.ripemd.specs.Collisions.{CollideAt, IsCollision, IsOnlyCollision}
use Rattle.ripemd.specs.Replay.{Gives, Stops}

-- ---- collisions

-- a block function over numbers: the state and the block's first byte, added modulo 2. Of no block it gives 0
abbrev pub parity : ℕ → List ℕ → ℕ
parity state [] = 0
parity state (b ∷ rest) = (state + b) % 2

-- a block of a byte and zeros, and a message of such blocks
abbrev pub block_of : ℕ → List ℕ
block_of b = b ∷ replicate 63 0

abbrev pub message_of : List ℕ → List ℕ
message_of bytes = flat_map block_of bytes

-- the walks of two such messages collide at these places
abbrev pub Collide : List ℕ → List ℕ → ℕ → ℕ → Type 0
Collide a b = CollideAt 0 parity (blocks (padded_message (message_of a))) (blocks (padded_message (message_of b)))

-- places where walks collide, and places that lack just one part of it
pub record WorkedPlaces : Type 0 where
  pub first : Collide (1 ∷ 2 ∷ []) (3 ∷ 2 ∷ []) 0 0
  pub last_difference : Collide (1 ∷ 2 ∷ []) (3 ∷ 4 ∷ []) 1 1
  pub unlike_lengths : Collide (0 ∷ 1 ∷ []) (1 ∷ []) 2 1
  pub no_difference : ¬ Collide (1 ∷ 2 ∷ []) (3 ∷ 2 ∷ []) 1 1
  pub not_one_step : ¬ Collide (1 ∷ 2 ∷ []) (2 ∷ 2 ∷ []) 2 2
  pub another_later : ¬ Collide (1 ∷ 2 ∷ []) (3 ∷ 4 ∷ []) 0 0
  pub another_rest : ¬ Collide (1 ∷ 2 ∷ []) (3 ∷ 2 ∷ []) 2 1
  pub past_the_ends : ¬ Collide (1 ∷ 2 ∷ []) (2 ∷ 2 ∷ []) 3 3

-- a pair of meetings at the first place, with these states and blocks
abbrev pub met : ℕ → List ℕ → ℕ → List ℕ → Collision ℕ
met s x t y = record {
  left = record { place = 0; state = s; block = x };
  right = record { place = 0; state = t; block = y };
}

-- they are a collision of the messages 1, 2 and 3, 2
abbrev pub Met : Collision ℕ → Type 0
Met = IsCollision 0 parity (message_of (1 ∷ 2 ∷ [])) (message_of (3 ∷ 2 ∷ []))

pub record WorkedCollisions : Type 0 where
  pub one : Met (met 0 (block_of 1) 0 (block_of 3))
  pub another_left_state : ¬ Met (met 1 (block_of 1) 0 (block_of 3))
  pub another_left_block : ¬ Met (met 0 (block_of 5) 0 (block_of 3))
  pub another_right_state : ¬ Met (met 0 (block_of 1) 1 (block_of 3))
  pub another_right_block : ¬ Met (met 0 (block_of 1) 0 (block_of 5))
  pub not_none : ¬ IsOnlyCollision 0 parity (message_of (1 ∷ 2 ∷ [])) (message_of (3 ∷ 2 ∷ [])) None

-- ---- the machine of `replay`

-- commands of each kind, over some bytes and a saved state. They make hasher 0, one from the saved state (1), a copy of
-- 0 (2), one from what was saved of 0 (3), one more from the saved state (4), and a last new one (5)
abbrev pub each_command : Bor (List ℕ) → Bor (List ℕ) → Bor (List ℕ) → List Command
each_command a b saved =
    New ∷ Import saved ∷ Update 0 a ∷ Update 1 b ∷ Fork 0 ∷ Save 0 ∷ Update 0 a ∷ Update 2 b ∷ Reset 1 ∷ Load 0
    ∷ Import saved ∷ Update 4 b ∷ New ∷ Finish 4 ∷ Finish 3 ∷ Finish 2 ∷ Finish 1 ∷ Finish 0 ∷ Update 4 b ∷ Finish 4
    ∷ Finish 5 ∷ []

-- for a hash with these start words, step and output, and its states
module _ (start : List ℕ) (step : List ℕ → List ℕ → List ℕ) (output : List ℕ → List ℕ)
    (is_valid : HashState → Type 0) (state_bytes : HashState → List ℕ) where
  -- the digest of a state that was fed bytes, and of a message
  abbrev pub digest_from : HashState → List ℕ → List ℕ
  digest_from h bytes = finish step output (fed step h bytes)

  abbrev pub digest_of : List ℕ → List ℕ
  digest_of = digest_from (initial_state start)

  -- a list of commands can fail by this error
  abbrev pub CanFail : List Command → ReplayError → Type 0
  CanFail = Stops start step output is_valid state_bytes

  -- and gives no digests
  abbrev pub Fails : List Command → ReplayError → Type 0
  Fails commands error = CanFail commands error
      × ((digests : List (List ℕ)) → ¬ Gives start step output is_valid state_bytes commands digests)

  -- of a command about a second hasher, where there is one
  abbrev pub NoSecond : Command → Type 0
  NoSecond c = Fails (New ∷ c ∷ []) (NoHasher 1 1)

  -- what the digests of commands are of, and which lists fail
  pub record WorkedReplay : Type 0 where
    pub digests : (a b saved : Bor (List ℕ)) (h : HashState) → is_valid h → state_bytes h ≡ saved.now
        → Gives start step output is_valid state_bytes (each_command a b saved)
        (digest_from h b.now ∷ digest_of a.now ∷ digest_of (a.now ++ b.now) ∷ digest_of []
        ∷ digest_of (a.now ++ a.now) ∷ digest_of b.now ∷ digest_of [] ∷ [])
    pub no_hasher : (a : Bor (List ℕ))
        → NoSecond (Update 1 a) × NoSecond (Reset 1) × NoSecond (Finish 1) × NoSecond (Fork 1) × NoSecond (Save 1)
    pub no_saved : Fails (New ∷ Save 0 ∷ Load 1 ∷ []) (NoSaved 2 1)
    pub bad_state : (a : Bor (List ℕ)) → ((h : HashState) → is_valid h → state_bytes h ≢ a.now)
        → Fails (New ∷ Import a ∷ []) (BadState 1)
    pub no_memory : Fails (New ∷ Load 0 ∷ []) OutOfMemory
    pub memory_of_none : ¬ CanFail (Load 0 ∷ New ∷ []) OutOfMemory
    pub another_place : ¬ CanFail (New ∷ Reset 1 ∷ []) (NoHasher 0 1)
    pub another_hasher : ¬ CanFail (New ∷ Reset 1 ∷ []) (NoHasher 1 0)
    pub a_hasher : ¬ CanFail (New ∷ Finish 0 ∷ []) (NoHasher 1 0)
    pub a_saved_state : ¬ CanFail (Load 0 ∷ []) (NoHasher 0 0)
