use Rattle.std.proofs.Common.{◌≡◌, ◌≢◌, ℕ, List, length, Result, Ok, Err, IfErr, sym, ap, ◌∙◌, arith, rules}
use Rattle.ripemd.specs.OverLists.{IsInjectiveOutput}
use Rattle.ripemd_mac.specs.Hmac.{KeyedState}
use Rattle.ripemd_mac.specs.Saved.{IsKeyedState, hmac_bytes}
use Rattle.ripemd_mac.specs.Laws.{length-hmac_bytes, inner_part, outer_part, hmac_bytes_injective}
use Rattle.ripemd_mac.proofs.hmac.Hmac+BlockHasher+F.load_slice.Goals as goal

-- what no state has, holds of an error
of_error : {T E : Type 0} {are_words : List ℕ → Type 0} {output : List ℕ → List ℕ} {n : ℕ} → IsInjectiveOutput are_words output n
    → (r : Result T E) (bytes : List ℕ) → ((state : KeyedState) → IsKeyedState are_words state → hmac_bytes output state ≢ bytes)
    → IfErr r (λ _. (state : KeyedState) → IsKeyedState are_words state → hmac_bytes output state ≢ bytes)
of_error tells (Ok x) bytes none = tt
of_error tells (Err e) bytes none = none

-- another number of bytes
pub returns-then-bytes-LEN-clause-err : goal.returns-then-bytes-LEN-clause-err
returns-then-bytes-LEN-clause-err g c state valid same =
    let r = g.met.F.ResumableFunction in
    let size = length-hmac_bytes r.injective_output state valid in
    omega (arith, ap length same, size, r.saved_core_size, r.saved_hasher_size, r.saved_hmac_size)

-- the first bytes are those of the inner hash state
pub returns-in_err-load_slice-clause-err : goal.returns-in_err-load_slice-clause-err
returns-in_err-load_slice-clause-err g c =
    let r = g.met.F.ResumableFunction in
    of_error r.injective_output _ c.args.bytes.now (λ state valid same. c.in_err-load_slice.ensures.err state.inner valid.inner
    (cc (inner_part r.injective_output state valid c.args.bytes.now same, r.saved_hasher_size, r.saved_core_size)))

-- the others are those of the outer one
pub returns-in_err-load_slice-2-clause-err : goal.returns-in_err-load_slice-2-clause-err
returns-in_err-load_slice-2-clause-err g c =
    let r = g.met.F.ResumableFunction in
    of_error r.injective_output _ c.args.bytes.now (λ state valid same. c.in_err-load_slice-2.ensures.err state.outer valid.outer
    (cc (outer_part r.injective_output state valid c.args.bytes.now same, r.saved_hasher_size, r.saved_core_size)))

pub returns-clause-text : goal.returns-clause-text
returns-clause-text g c key text saved =
    let tells = g.met.F.ResumableFunction.injective_output in
    let inner = c.in_ok-load_slice in
    let outer = c.in_ok-load_slice-2 in
    let state : KeyedState = record { inner = inner.field-0; outer = outer.field-0 } in
    let bytes : hmac_bytes g.F.ListBlockFunction.output state ≡ c.args.bytes.now = search rules in
    record {
      is = hmac_bytes_injective tells state saved.state (record { inner = inner.ensures.valid; outer = outer.ensures.valid })
          saved.valid (bytes ∙ sym saved.saved)
          ∙ saved.stands.is;
    }
