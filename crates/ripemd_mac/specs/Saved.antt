-- The bytes that an HMAC state is saved as (this repository's own).
use Rattle.std.specs.Prelude.{◌≡◌, ℕ, List, ◌++◌}
use Rattle.ripemd.specs.States.{IsHashState, core_and_tail}
use Rattle.ripemd_mac.specs.Hmac.{KeyedState, StandsFor}

-- an HMAC state whose two hash states are valid
pub record IsKeyedState (are_words : List ℕ → Type 0) (state : KeyedState) : Type 0 where
  pub inner : IsHashState are_words state.inner
  pub outer : IsHashState are_words state.outer

-- the bytes that it is saved as: those of its inner hash state, and then those of its outer one
abbrev pub hmac_bytes : (List ℕ → List ℕ) → KeyedState → List ℕ
hmac_bytes output state = core_and_tail output state.inner ++ core_and_tail output state.outer

-- these are the bytes of a state that stands for this key and this text
pub record IsSavedFor (start : List ℕ) (step : List ℕ → List ℕ → List ℕ) (output : List ℕ → List ℕ)
    (are_words : List ℕ → Type 0) (key text bytes : List ℕ) : Type 0 where
  pub state : KeyedState
  pub valid : IsKeyedState are_words state
  pub saved : hmac_bytes output state ≡ bytes
  pub stands : StandsFor start step output key text state
