use Rattle.ripemd.specs.Standard.{hash}
use Rattle.ripemd_mac.proofs.MacReduction.{after_front}
use Rattle.ripemd_mac.proofs.reduction.prefixed_collision.Goals as goal

pub returns-clause-none : goal.returns-clause-none
returns-clause-none g c =
    let d = g.D.Digest in
    let f = g.D.Core.BlockFunction in
    let same =
    after_front (hash f.start_of f.step_of f.output_of) g.D.OutputSizeUser.bytes_of (hash d.start d.step d.output)
    g.met.D.BlockDigest.digest_is g.D.OutputSizeUser.same_digest c.args.masked_key.now c.args.a.now c.args.b.now in
    let found = rw (c.join.ensures, c.join-2.ensures) at c.collision_witness.ensures.none in
    (λ none. same.0 (found.0 none), λ nothing. found.1 (same.1 nothing))
