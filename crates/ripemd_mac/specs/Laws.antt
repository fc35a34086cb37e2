-- The laws of HMAC states, for callers.
use Rattle.std.proofs.Common.{◌≡◌, ℕ, ◌+◌, List, [], ◌++◌, length, take, drop, length-append, refl, sym, ap, ◌∙◌, arith}
use Rattle.std.proofs.lemmas.List.{append-nil, take_at, drop_at}
use Rattle.ripemd.specs.Standard.{hash}
use Rattle.ripemd.specs.States.{HashState, initial_state, fed, core_and_tail}
use Rattle.ripemd.specs.OverLists.{IsInjectiveOutput}
use Rattle.ripemd.specs.Laws as laws
use Rattle.ripemd.specs.Laws.{length-core_and_tail, core_and_tail_injective}
use Rattle.ripemd_mac.specs.Hmac.{key_block, masked, inner_message, outer_message, hmac, KeyedState, fed_text, tag_of, keyed_state, StandsFor}
use Rattle.ripemd_mac.specs.Saved.{IsKeyedState, hmac_bytes}

same_states : (s t : KeyedState) → s.inner ≡ t.inner → s.outer ≡ t.outer → s ≡ t
same_states s t inner outer =
    ap (λ (h : HashState). record s { inner = h }) inner ∙ ap (λ (h : HashState). record t { outer = h }) outer

-- ---- texts

pub fed_twice : (step : List ℕ → List ℕ → List ℕ) (s : KeyedState) (x y : List ℕ)
    → fed_text step (fed_text step s x) y ≡ fed_text step s (x ++ y)
fed_twice step s x y = ap (λ (h : HashState). record s { inner = h }) (laws.fed_twice step s.inner x y)

module _ (start : List ℕ) (step : List ℕ → List ℕ → List ℕ) (output : List ℕ → List ℕ) (key : List ℕ) where
  -- two hash states that have taken in the masked key blocks are the state of the key
  pub keyed_by_blocks : {state : KeyedState} {inner outer : List ℕ}
      → inner ≡ masked 0x36 (key_block (hash start step output) key) → outer ≡ masked 0x5c (key_block (hash start step output) key)
      → state.inner ≡ fed step (initial_state start) inner → state.outer ≡ fed step (initial_state start) outer
      → state ≡ keyed_state start step output key
  unfolding keyed_state
  keyed_by_blocks {state = state} of_inner of_outer inner outer = same_states state (keyed_state start step output key) (cc) (cc)

  -- no bytes leave the state of a key as it is
  pub fed_nothing : fed_text step (keyed_state start step output key) [] ≡ keyed_state start step output key
  unfolding keyed_state
  fed_nothing = simp (laws.fed_twice, append-nil)

  -- after a text it gives the tag of the text
  pub tag_of_text : (text : List ℕ)
      → tag_of step output (fed_text step (keyed_state start step output key) text) ≡ hmac (hash start step output) key text
  unfolding keyed_state hmac outer_message inner_message
  tag_of_text text = simp (laws.fed_twice, laws.finish_fed)

module _ {start : List ℕ} {step : List ℕ → List ℕ → List ℕ} {output : List ℕ → List ℕ} {key : List ℕ} where
  -- states that stand for the key and a text: with no text yet, after one more piece, and their tag
  pub stands_for_nothing : {state : KeyedState} → state ≡ keyed_state start step output key
      → StandsFor start step output key [] state
  stands_for_nothing new = record { is = new ∙ sym (fed_nothing start step output key) }

  pub stands_for_more : {state next : KeyedState} {text : List ℕ} (bytes : List ℕ) → next ≡ fed_text step state bytes
      → StandsFor start step output key text state → StandsFor start step output key (text ++ bytes) next
  stands_for_more {text = text} bytes update stands = record {
    is = update ∙ rw stands.is (fed_twice step (keyed_state start step output key) text bytes);
  }

  pub tag_of_stands : {state : KeyedState} {text tag : List ℕ} → tag ≡ tag_of step output state
      → StandsFor start step output key text state → tag ≡ hmac (hash start step output) key text
  tag_of_stands {text = text} done stands = done ∙ rw stands.is (tag_of_text start step output key text)

-- ---- saved bytes

module _ {are_words : List ℕ → Type 0} {output : List ℕ → List ℕ} {n : ℕ} (tells : IsInjectiveOutput are_words output n)
    (s : KeyedState) (valid : IsKeyedState are_words s) where
  first_size : length (core_and_tail output s.inner) ≡ n + 8 + 64
  first_size = length-core_and_tail tells s.inner valid.inner

  pub length-hmac_bytes : length (hmac_bytes output s) ≡ (n + 8 + 64) + (n + 8 + 64)
  length-hmac_bytes = omega (arith, length-append {A = ℕ}, first_size, length-core_and_tail tells s.outer valid.outer)

  -- the first are those of the inner state, and the others those of the outer one
  pub inner_part : (bytes : List ℕ) → hmac_bytes output s ≡ bytes → core_and_tail output s.inner ≡ take (n + 8 + 64) bytes
  inner_part bytes same = sym (take_at _ _ (n + 8 + 64) first_size) ∙ ap (take (n + 8 + 64)) same

  pub outer_part : (bytes : List ℕ) → hmac_bytes output s ≡ bytes → core_and_tail output s.outer ≡ drop (n + 8 + 64) bytes
  outer_part bytes same = sym (drop_at _ _ (n + 8 + 64) first_size) ∙ ap (drop (n + 8 + 64)) same

pub hmac_bytes_injective : {are_words : List ℕ → Type 0} {output : List ℕ → List ℕ} {n : ℕ} → IsInjectiveOutput are_words output n
    → (s t : KeyedState) → IsKeyedState are_words s → IsKeyedState are_words t
    → hmac_bytes output s ≡ hmac_bytes output t → s ≡ t
hmac_bytes_injective {output = output} tells s t of_s of_t same =
    same_states s t
    (core_and_tail_injective tells s.inner t.inner of_s.inner of_t.inner
    (inner_part tells s of_s (hmac_bytes output t) same ∙ sym (inner_part tells t of_t (hmac_bytes output t) refl)))
    (core_and_tail_injective tells s.outer t.outer of_s.outer of_t.outer
    (outer_part tells s of_s (hmac_bytes output t) same ∙ sym (outer_part tells t of_t (hmac_bytes output t) refl)))
