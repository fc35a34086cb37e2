-- Hash states and HMAC states as callers have them, a mark and the bytes that they are kept as, and what the calls that
-- take them do.
use Rattle.std.specs.Prelude.{◌≡◌, ◌↔◌, ℕ, ◌+◌, ◌-◌, ◌*◌, List, [], ◌++◌, length, drop, Bool, IsTrue, IsFalse, ⊤, slice_index, slice_range}
use Rattle.ripemd.specs.Standard.{word_bytes, Parameters, compress, ripemd}
use Rattle.ripemd.specs.States.{HashState, AreWords, IsState, new_state, fed, finish, hasher_bytes}
use Rattle.ripemd_mac.specs.Hmac.{KeyedState, hmac, keyed_state, fed_text, tag_of}
use Rattle.ripemd_mac.specs.Saved.{IsKeyedState, hmac_bytes}
use Rattle.ripemd_c.specs.KeptBytes.{IsSaved, cleared, cleared_hmac}
use Rattle.ripemd_c.specs.Variants.{AtVariant, ByVariant, Refuses, Writes, digest_size}

-- ---- states

-- the bytes that a hash state and an HMAC state of a variant are saved as, and how many they are
abbrev pub IsSavedState : Parameters → HashState → List ℕ → Type 0
IsSavedState v = IsSaved (IsState v) hasher_bytes

abbrev pub IsSavedHmac : Parameters → KeyedState → List ℕ → Type 0
IsSavedHmac v = IsSaved (IsKeyedState (AreWords (length v.start))) (hmac_bytes word_bytes)

abbrev pub saved_size : Parameters → ℕ
saved_size v = digest_size v + 72

abbrev pub saved_hmac_size : Parameters → ℕ
saved_hmac_size v = 2 * saved_size v

-- callers keep them as these, except that any bytes may stand after a tail
abbrev pub IsKeptState : Parameters → HashState → List ℕ → Type 0
IsKeptState v h kept = IsSavedState v h (cleared (digest_size v + 8) kept)

abbrev pub IsKeptHmac : Parameters → KeyedState → List ℕ → Type 0
IsKeptHmac v s kept = IsSavedHmac v s (cleared_hmac (digest_size v + 8) kept)

-- the kept bytes, which follow a mark; any bytes may follow them
abbrev pub kept_in : (size : ℕ) → List ℕ → List ℕ
kept_in size bytes = slice_range bytes 1 (1 + size)

-- the mark is the size of a digest, plus 128 for HMAC. So it names the variant, by the bits of its digests
abbrev pub bits_of_state : List ℕ → ℕ
bits_of_state bytes = 8 * slice_index bytes 0

abbrev pub bits_of_hmac : List ℕ → ℕ
bits_of_hmac bytes = 8 * (slice_index bytes 0 - 128)

-- ---- calls

-- For example, a state of RIPEMD-160 has taken in "ab": behind the mark 20 stand the words and the count of the start, the
-- length 2, "ab", and 61 bytes of any value. An update with "c" makes the length 3, and puts "c" behind "ab" (TakesIn).
-- Another call keeps a state (Keeps), does something with one (WithState), or with its digest or tag (WithOutput).

-- a call makes the kept bytes of a state those of the state after a piece, and answers whether it did: it refuses
-- exactly the bytes of no state. So if the state had taken in a message, it has taken in the message and the piece
pub record Updates {S : Type 0} (IsKeptAs : S → List ℕ → Type 0) (fed : S → List ℕ → S)
    (old piece new : List ℕ) (done : Bool) : Type 0 where
  pub state : (s : S) → IsKeptAs s old → IsTrue done × IsKeptAs (fed s piece) new
  pub message : (start : S) (message : List ℕ) → IsKeptAs (fed start message) old
      → IsTrue done × IsKeptAs (fed start (message ++ piece)) new
  pub refused : IsFalse done ↔ ((s : S) → ¬ IsKeptAs s old)

-- a call does so with the kept bytes in a state; the bytes around them stay, and if it refuses, all do
pub record TakesIn {S : Type 0} (IsKeptAs : S → List ℕ → Type 0) (fed : S → List ℕ → S) (size : ℕ)
    (piece old new : List ℕ) (done : Bool) : Type 0 where
  pub kept : Updates IsKeptAs fed (kept_in size old) piece (kept_in size new) done
  pub mark : slice_index new 0 ≡ slice_index old 0
  pub behind : drop (1 + size) new ≡ drop (1 + size) old
  pub unchanged : IsFalse done → new ≡ old

-- a call keeps a state after a mark; the bytes after it stay
pub record Keeps {S : Type 0} (IsKeptAs : S → List ℕ → Type 0) (mark size : ℕ) (s : S) (old new : List ℕ) (done : Bool) : Type 0 where
  pub yes : IsTrue done
  pub marked : slice_index new 0 ≡ mark
  pub kept : IsKeptAs s (kept_in size new)
  pub behind : drop (1 + size) new ≡ drop (1 + size) old

-- a call does this with the state that is kept or saved as some bytes; it refuses the bytes of no state
pub record WithState {S : Type 0} (IsAs : S → List ℕ → Type 0) (bytes : List ℕ) (Does : S → Type 0) (Otherwise : Type 0) : Type 0 where
  pub state : (s : S) → IsAs s bytes → Does s
  pub refused : ((s : S) → ¬ IsAs s bytes) → Otherwise

-- a call does this with the output of a kept state, which is that of a message, if the state has taken it in from the
-- start; it refuses the bytes of no state
pub record WithOutput {S O : Type 0} (IsKeptAs : S → List ℕ → Type 0) (new_state : O → S) (fed : S → List ℕ → S)
    (output : S → List ℕ) (whole : O → List ℕ → List ℕ) (kept : List ℕ) (Does : List ℕ → Type 0) (Otherwise : Type 0) : Type 0 where
  pub state : (s : S) → IsKeptAs s kept → Does (output s)
  pub message : (o : O) (message : List ℕ) → IsKeptAs (fed (new_state o) message) kept → Does (whole o message)
  pub refused : ((s : S) → ¬ IsKeptAs s kept) → Otherwise

-- with the digest of a hash state of a variant, and with the tag of an HMAC state
abbrev pub WithDigest : Parameters → (kept : List ℕ) → (Does : List ℕ → Type 0) → (Otherwise : Type 0) → Type 0
WithDigest v =
    WithOutput {O = ⊤} (IsKeptState v) (λ _. new_state v) (fed (compress v)) (finish (compress v) word_bytes) (λ _. ripemd v)

abbrev pub WithTag : Parameters → (kept : List ℕ) → (Does : List ℕ → Type 0) → (Otherwise : Type 0) → Type 0
WithTag v =
    WithOutput (IsKeptHmac v) (keyed_state v.start (compress v) word_bytes) (fed_text (compress v))
    (tag_of (compress v) word_bytes) (hmac (ripemd v))

-- ---- calls by number, or at the variant of a state

-- the state of no bytes
abbrev pub InitsState : (bits : ℕ) → (old new : List ℕ) → Bool → Type 0
InitsState bits =
    ByVariant bits (λ v. Keeps (IsKeptState v) (digest_size v) (saved_size v) (fed (compress v) (new_state v) []))

abbrev pub InitsHmac : (bits : ℕ) → (key old new : List ℕ) → Bool → Type 0
InitsHmac bits key =
    ByVariant bits (λ v. Keeps (IsKeptHmac v) (128 + digest_size v) (saved_hmac_size v)
    (fed_text (compress v) (keyed_state v.start (compress v) word_bytes key) []))

-- the state that is saved as some bytes
abbrev pub LoadsState : (bits : ℕ) → (saved old new : List ℕ) → Bool → Type 0
LoadsState bits saved =
    ByVariant bits (λ v old new done. WithState (IsSavedState v) saved
    (λ h. Keeps (IsKeptState v) (digest_size v) (saved_size v) h old new done) (Refuses old new done))

abbrev pub LoadsHmac : (bits : ℕ) → (saved old new : List ℕ) → Bool → Type 0
LoadsHmac bits saved =
    ByVariant bits (λ v old new done. WithState (IsSavedHmac v) saved
    (λ s. Keeps (IsKeptHmac v) (128 + digest_size v) (saved_hmac_size v) s old new done) (Refuses old new done))

-- and the bytes that a state is saved as
abbrev pub SavesState : (state old new : List ℕ) → Bool → Type 0
SavesState state =
    ByVariant (bits_of_state state) (λ v old new done. WithState (IsKeptState v) (kept_in (saved_size v) state)
    (λ h. Writes (length old ≡ saved_size v) (hasher_bytes h) old new done) (Refuses old new done))

abbrev pub SavesHmac : (state old new : List ℕ) → Bool → Type 0
SavesHmac state =
    ByVariant (bits_of_hmac state) (λ v old new done. WithState (IsKeptHmac v) (kept_in (saved_hmac_size v) state)
    (λ s. Writes (length old ≡ saved_hmac_size v) (hmac_bytes word_bytes s) old new done) (Refuses old new done))

abbrev pub UpdatesState : (old piece new : List ℕ) → Bool → Type 0
UpdatesState old piece = ByVariant (bits_of_state old) (λ v. TakesIn (IsKeptState v) (fed (compress v)) (saved_size v) piece) old

abbrev pub UpdatesHmac : (old piece new : List ℕ) → Bool → Type 0
UpdatesHmac old piece =
    ByVariant (bits_of_hmac old) (λ v. TakesIn (IsKeptHmac v) (fed_text (compress v)) (saved_hmac_size v) piece) old

abbrev pub FinalizesState : (state old new : List ℕ) → Bool → Type 0
FinalizesState state =
    ByVariant (bits_of_state state) (λ v old new done. WithDigest v (kept_in (saved_size v) state)
    (λ digest. Writes (length old ≡ digest_size v) digest old new done) (Refuses old new done))

abbrev pub FinalizesHmac : (state old new : List ℕ) → Bool → Type 0
FinalizesHmac state =
    ByVariant (bits_of_hmac state) (λ v old new done. WithTag v (kept_in (saved_hmac_size v) state)
    (λ tag. Writes (length old ≡ digest_size v) tag old new done) (Refuses old new done))

abbrev pub VerifiesHmac : (state tag : List ℕ) → Bool → Type 0
VerifiesHmac state bytes answer =
    AtVariant (bits_of_hmac state)
    (λ v. WithTag v (kept_in (saved_hmac_size v) state) (λ tag. IsTrue answer ↔ (bytes ≡ tag)) (IsFalse answer))
    (IsFalse answer)
