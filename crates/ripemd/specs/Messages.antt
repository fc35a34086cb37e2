-- Hashers of messages, for callers who feed them in pieces.
use Rattle.std.specs.Prelude.{◌≡◌, ℕ, List}
use Rattle.ripemd_block.specs.States.{HashState, initial_state, fed}

-- the hash state of this message: that of a new hasher, fed the message
pub record IsHashing (start : List ℕ) (step : List ℕ → List ℕ → List ℕ) (message : List ℕ) (h : HashState) : Type 0 where
  pub is : h ≡ fed step (initial_state start) message
