use Rattle.std.proofs.Common.{rules}
use Rattle.ripemd_batch.proofs.KeyBlocks.{tags}
use Rattle.ripemd_batch.proofs.lists.ListHasher.keyed.Goals as goal

pub returns : goal.returns
returns g c =
    let d = g.D.Digest in
    let keys = c.masked_keys-keys.result in
    let same = g.met.D.BatchDigest in
    rw (c.state_after.ensures.value, c.state_after-2.ensures.value, same.same_step, same.same_start)
    (tags d.start d.step d.output c.args.key.now keys.inner keys.outer (search rules) (search rules) c.masked_keys-keys.ensures.inner
    c.masked_keys-keys.ensures.outer)
