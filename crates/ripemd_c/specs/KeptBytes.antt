-- The bytes that callers keep states as (this repository's own).
use Rattle.std.specs.Prelude.{◌≡◌, ℕ, ◌+◌, ◌-◌, List, [], ◌∷◌, ◌++◌, length, take, drop, replicate}
use Rattle.ripemd.specs.States.{HashState}

-- a state that can occur is saved as these bytes
pub record IsSaved {S : Type 0} (is_valid : S → Type 0) (state_bytes : S → List ℕ) (state : S) (bytes : List ℕ) : Type 0 where
  pub valid : is_valid state
  pub saved : state_bytes state ≡ bytes

-- old are the bytes of a saved state, and new those of the state after a piece
pub record IsAppended {S : Type 0} (is_valid : S → Type 0) (state_bytes : S → List ℕ) (fed : S → List ℕ → S)
    (old piece new : List ℕ) : Type 0 where
  pub state : S
  pub before : IsSaved is_valid state_bytes state old
  pub after : IsSaved is_valid state_bytes (fed state piece) new

-- the bytes of a saved state whose tail has so many bytes
pub record HasTail (is_valid : HashState → Type 0) (state_bytes : HashState → List ℕ) (bytes : List ℕ) (len : ℕ) : Type 0 where
  pub state : HashState
  pub saved : IsSaved is_valid state_bytes state bytes
  pub tail : length state.tail ≡ len

-- callers keep a state as the bytes that it is saved as, except that any bytes may stand after a tail. With zeros in
-- their place they are the saved ones: of a tail, its length and as many bytes
abbrev pub cleared_tail : List ℕ → List ℕ
cleared_tail [] = []
cleared_tail (n ∷ behind) = n ∷ take n behind ++ replicate (length behind - n) 0

-- of a core, saved as so many bytes, and then a tail
abbrev pub cleared : (core : ℕ) → List ℕ → List ℕ
cleared core kept = take core kept ++ cleared_tail (drop core kept)

-- of the two hash states of an HMAC state
abbrev pub cleared_hmac : (core : ℕ) → List ℕ → List ℕ
cleared_hmac core kept = cleared core (take (core + 64) kept) ++ cleared core (drop (core + 64) kept)
