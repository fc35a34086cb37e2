use Rattle.std.proofs.Common.{◌++◌, ap, ◌∙◌}
use Rattle.ripemd.specs.Laws.{fed_twice, finish_fed}
use Rattle.ripemd.specs.States.{initial_state, finish, fed}
use Rattle.ripemd_uses.proofs.calling.digest_put_aside.Goals as goal

-- what was loaded is what was saved
pub returns : goal.returns
returns g c =
    let d = g.D.Digest in
    let ok = rw c.unwrap-hasher.ensures at c.deserialize.ensures.ok in
    let valid = rw c.unwrap-hasher.ensures at c.deserialize.ensures.valid in
    let same = g.met.D.SerializableState.state_injective _ _ valid c.serialize-saved.ensures.valid
    (ok ∙ c.serialize-saved.ensures.bytes) in
    let first = c.args.first.now in
    let second = c.args.second.now in
    c.finalize.ensures.digest
    ∙ ap (finish d.step d.output) (c.chain_update.ensures.fed ∙ ap (λ h. fed d.step h second) (same ∙ c.new_with_prefix.ensures.fed)
    ∙ fed_twice d.step (initial_state d.start) first second)
    ∙ finish_fed d.start d.step d.output (first ++ second)
