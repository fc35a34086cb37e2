use Rattle.ripemd.proofs.Library.{◌∙◌, sym, rules, false≢true}
use Rattle.ripemd_mac.proofs.MacReduction.{compared, no_memory, inner_answer, outer_answer}
use Rattle.ripemd_mac.proofs.reduction.mac_collision.Goals as goal

pub returns-in_err-left : goal.returns-in_err-left
returns-in_err-left g c =
    let sides = compared _ _ _ _ c.masked_keys-keys.ensures.inner c.prefixed_digest-a_digest.ensures
    c.output_bytes-a_bytes.ensures.bytes c.prefixed_digest-b_digest.ensures c.output_bytes-b_bytes.ensures.bytes in
    let failed = no_memory _ _ _ _ c.from_residual.result c.from_residual.ensures.0 (sym c.eq.ensures ∙ c.if-eq.false)
    (sides.2.0 (sym c.eq-2.ensures ∙ c.if-eq-2.true)) in
    record { none = failed.0; some = search rules; only = search rules; err = failed.1 }

pub returns-in_err-right : goal.returns-in_err-right
returns-in_err-right g c =
    let sides = compared _ _ _ _ c.masked_keys-keys.ensures.inner c.prefixed_digest-a_digest.ensures
    c.output_bytes-a_bytes.ensures.bytes c.prefixed_digest-b_digest.ensures c.output_bytes-b_bytes.ensures.bytes in
    let failed = no_memory _ _ _ _ c.from_residual-in_err-right.result c.from_residual-in_err-right.ensures.0
    (sym c.eq.ensures ∙ c.if-eq.false) (sides.2.0 (sym c.eq-2.ensures ∙ c.if-eq-2.true)) in
    record { none = failed.0; some = search rules; only = search rules; err = failed.1 }

pub returns-then-eq-2 : goal.returns-then-eq-2
returns-then-eq-2 g c =
    let sides = compared _ _ _ _ c.masked_keys-keys.ensures.inner c.prefixed_digest-a_digest.ensures
    c.output_bytes-a_bytes.ensures.bytes c.prefixed_digest-b_digest.ensures c.output_bytes-b_bytes.ensures.bytes in
    let met = c.prefixed_collision-collision.ensures in
    let inner =
    inner_answer _ _ _ _ _ _ c.masked_keys-keys.ensures.inner (sides.2.0 (sym c.eq-2.ensures ∙ c.if-eq-2.true))
    c.prefixed_collision-collision.result c.map.result c.map.ensures.cases met.none met.some met.only in
    record { none = inner.none; some = inner.some; only = inner.only; err = tt }

pub returns : goal.returns
returns g c =
    let sides = compared _ _ _ _ c.masked_keys-keys.ensures.inner c.prefixed_digest-a_digest.ensures
    c.output_bytes-a_bytes.ensures.bytes c.prefixed_digest-b_digest.ensures c.output_bytes-b_bytes.ensures.bytes in
    let met = c.prefixed_collision-collision-2.ensures in
    let outer =
    outer_answer _ _ _ _ _ _ c.masked_keys-keys.ensures.outer sides.0 sides.1
    (λ agree. false≢true (sym c.if-eq-2.false ∙ c.eq-2.ensures ∙ sides.2.1 agree))
    c.prefixed_collision-collision-2.result c.map-2.result c.map-2.ensures.cases met.none met.some met.only in
    record { none = outer.none; some = outer.some; only = outer.only; err = tt }
