-- What the vectors of `replay` hold, against the machine of the definitions.
use Rattle.std.specs.Prelude.{◌≡◌, ℕ, List, map}
use Rattle.std.specs.List.{All}
use Rattle.ripemd_block.specs.States.{HashState}
use Rattle.ripemd.specs.Replay.{Machine, state}

-- hashers whose meanings are the states of the machine's hashers, arrays whose bytes are those that the machine's
-- saved states are saved as, and digests with the bytes of the machine's
pub record Holds {D S O : Type 0} (step : List ℕ → List ℕ → List ℕ) (is_valid : HashState → Type 0)
    (state_bytes : HashState → List ℕ) (meaning : D → HashState) (saved_bytes : S → List ℕ) (bytes_of : O → List ℕ)
    (hashers : List D) (arrays : List S) (digests : List O) (m : Machine) : Type 0 where
  pub states : map meaning hashers ≡ map (state step) m.hashers
  pub saved : map saved_bytes arrays ≡ map (λ h. state_bytes (state step h)) m.saved
  pub valid : All (λ h. is_valid (state step h)) m.saved
  pub results : map bytes_of digests ≡ m.digests
