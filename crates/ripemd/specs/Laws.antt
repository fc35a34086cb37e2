-- The laws of hash states, for callers of the hashers, who name them in `using(..)`.
use Rattle.std.proofs.Common.{◌≡◌, ◌≢◌, ℕ, List, [], ◌++◌, refl, sym, ◌∙◌, arith}
use Rattle.ripemd_block.specs.Standard.{word_bytes, Parameters, compress, hash, ripemd}
use Rattle.ripemd_block.specs.States.{HashState, IsState, initial_state, new_state, fed, finish, hasher_bytes}
pub use Rattle.ripemd_block.specs.Laws.Pieces.{fed_nothing, fed_twice, finish_fed}
pub use Rattle.ripemd_block.specs.Laws.Saved.{length-core_and_tail, core_and_tail_injective}
use Rattle.ripemd_block.specs.Laws.Saved.{hasher_bytes_injective}
use Rattle.ripemd.specs.Messages.{IsHashing}

-- no bytes leave the state before the first byte as it is
pub fed_nothing_at_first : (step : List ℕ → List ℕ → List ℕ) (start : List ℕ)
    → fed step (initial_state start) [] ≡ initial_state start
fed_nothing_at_first step start = fed_nothing step (initial_state start) (omega arith) (omega arith)

-- ---- hashers of messages

module _ {start : List ℕ} {step : List ℕ → List ℕ → List ℕ} where
  pub hashing_nothing : {h : HashState} → h ≡ initial_state start → IsHashing start step [] h
  hashing_nothing new = record { is = new ∙ sym (fed_nothing_at_first step start) }

  -- a hasher of a message, fed more bytes, is a hasher of the message and these bytes
  pub hashing_more : {h next : HashState} {message : List ℕ} (bytes : List ℕ) → next ≡ fed step h bytes
      → IsHashing start step message h → IsHashing start step (message ++ bytes) next
  hashing_more {message = message} bytes update before = record {
    is = update ∙ rw before.is (fed_twice step (initial_state start) message bytes);
  }

  -- the digest of a hasher of a message is the hash of the message
  pub hashing_done : {D : Type 0} (output : List ℕ → D) {h : HashState} {message : List ℕ} {digest : D}
      → digest ≡ finish step output h → IsHashing start step message h → digest ≡ hash start step output message
  hashing_done output {message = message} done before = done ∙ rw before.is (finish_fed start step output message)

-- ---- bytes that a hasher is saved as, for callers who keep them between the pieces of a message

-- the bytes that are saved after this message
pub record IsSavedAfter (v : Parameters) (message bytes : List ℕ) : Type 0 where
  pub state : HashState
  pub hashing : IsHashing v.start (compress v) message state
  pub valid : IsState v state
  pub saved : hasher_bytes state ≡ bytes

module _ {v : Parameters} where
  -- the bytes of a new hasher
  pub saved_first : {h : HashState} {bytes : List ℕ} → bytes ≡ hasher_bytes h → h ≡ new_state v → IsState v h → IsSavedAfter v [] bytes
  saved_first saved new valid = record { state = _; hashing = hashing_nothing new; valid = valid; saved = sym saved }

  -- the hasher that was loaded was fed the message
  loaded : {message bytes : List ℕ} {h : HashState} → IsSavedAfter v message bytes → hasher_bytes h ≡ bytes → IsState v h
      → IsHashing v.start (compress v) message h
  loaded {h = h} before from valid =
      let same = hasher_bytes_injective v h before.state valid before.valid (from ∙ sym before.saved) in
      record { is = same ∙ before.hashing.is }

  -- the bytes after one more piece
  pub saved_next : {message : List ℕ} (piece : List ℕ) {bytes next : List ℕ} {h h' : HashState}
      → IsSavedAfter v message bytes → hasher_bytes h ≡ bytes → IsState v h → h' ≡ fed (compress v) h piece
      → next ≡ hasher_bytes h' → IsState v h' → IsSavedAfter v (message ++ piece) next
  saved_next piece before from valid fed_piece saved valid_next =
      record { state = _; hashing = hashing_more piece fed_piece (loaded before from valid); valid = valid_next; saved = sym saved }

  -- the digest of what was loaded is that of the message
  pub saved_digest : {message bytes : List ℕ} {h : HashState} → IsSavedAfter v message bytes → hasher_bytes h ≡ bytes → IsState v h
      → finish (compress v) word_bytes h ≡ ripemd v message
  saved_digest before from valid = hashing_done word_bytes refl (loaded before from valid)

  -- refused bytes are saved after no message
  pub saved_after_none : {bytes : List ℕ} → ((h : HashState) → IsState v h → hasher_bytes h ≢ bytes)
      → (message : List ℕ) → ¬ IsSavedAfter v message bytes
  saved_after_none refused message after = refused after.state after.valid after.saved
