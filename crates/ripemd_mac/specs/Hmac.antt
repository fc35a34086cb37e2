-- HMAC, the hash of a text under a key, by any hash function (RFC 2104, section 2), and its states.
use Rattle.std.specs.Prelude.{◌≡◌, ℕ, ◌-◌, nat_le, if◌then◌else◌, List, ◌++◌, length, map, replicate}
use Rattle.std.specs.Int.Bits.{bit_xor}
use Rattle.ripemd.specs.Standard.{hash}
use Rattle.ripemd.specs.States.{HashState, initial_state, fed, finish}

-- ---- the tag

-- at most 64 bytes, filled with zeros to 64 (its step 1)
abbrev pub filled : List ℕ → List ℕ
filled bytes = bytes ++ replicate (64 - length bytes) 0

-- the key as a block: the key itself, or its hash if it is longer than 64 bytes, filled with zeros
unfoldable pub key_block : (List ℕ → List ℕ) → List ℕ → List ℕ
key_block hash key = filled (if nat_le (length key) 64 then key else hash key)

-- each byte combined with a mask, by exclusive or (steps 2 and 5: ipad is 0x36, opad 0x5c)
abbrev pub masked : ℕ → List ℕ → List ℕ
masked mask bytes = map (λ b. bit_xor b mask) bytes

-- the two messages that are hashed: a masked key block, and then the text or the inner hash (steps 3
-- and 6)
unfoldable pub inner_message : (List ℕ → List ℕ) → List ℕ → List ℕ → List ℕ
inner_message hash key text = masked 0x36 (key_block hash key) ++ text

unfoldable pub outer_message : (List ℕ → List ℕ) → List ℕ → List ℕ → List ℕ
outer_message hash key text = masked 0x5c (key_block hash key) ++ hash (inner_message hash key text)

-- the tag of a text under a key (step 7)
unfoldable pub hmac : (List ℕ → List ℕ) → List ℕ → List ℕ → List ℕ
hmac hash key text = hash (outer_message hash key text)

-- ---- HMAC states

-- two hash states
pub record KeyedState : Type 0 where
  pub inner : HashState
  pub outer : HashState

-- the state after more bytes of the text: the inner hash has taken them in
abbrev pub fed_text : (List ℕ → List ℕ → List ℕ) → KeyedState → List ℕ → KeyedState
fed_text step state bytes = record state { inner = fed step state.inner bytes }

-- the tag of a state: the digest of the outer hash after it has taken in the digest of the inner one
abbrev pub tag_of : (List ℕ → List ℕ → List ℕ) → (List ℕ → List ℕ) → KeyedState → List ℕ
tag_of step output state = finish step output (fed step state.outer (finish step output state.inner))

-- the HMAC state of a key and the empty text: each hash state has taken in a masked key block
unfoldable pub keyed_state : List ℕ → (List ℕ → List ℕ → List ℕ) → (List ℕ → List ℕ) → List ℕ → KeyedState
keyed_state start step output key =
    let block : List ℕ = key_block (hash start step output) key in
    record {
      inner = fed step (initial_state start) (masked 0x36 block);
      outer = fed step (initial_state start) (masked 0x5c block);
    }

-- a state that stands for a key and a text: that of the key, after the text
pub record StandsFor (start : List ℕ) (step : List ℕ → List ℕ → List ℕ) (output : List ℕ → List ℕ)
    (key text : List ℕ) (state : KeyedState) : Type 0 where
  pub is : state ≡ fed_text step (keyed_state start step output key) text
