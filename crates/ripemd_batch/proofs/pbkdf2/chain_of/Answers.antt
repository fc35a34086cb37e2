use Rattle.std.proofs.Common.{rules}
use Rattle.ripemd_batch.proofs.KeyBlocks.{block_is}
use Rattle.ripemd_batch.proofs.pbkdf2.chain_of.Goals as goal

pub returns-clause-block : goal.returns-clause-block
returns-clause-block g c rounds =
    let d = g.D.Digest in
    let keys = c.masked_keys-keys.result in
    let same = g.met.D.BatchDigest in
    rw (
      ← same.same_output,
      c.state_of_digest.ensures,
      c.state_after.ensures.value,
      c.state_after-outer.ensures.value,
      same.same_output,
      same.same_step,
      same.same_start,
      c.output_bytes.ensures.bytes,
      c.inner_digest-digest.ensures,
    )
    (block_is d.start d.step d.output c.args.password.now keys.inner keys.outer (search rules) (search rules)
    c.masked_keys-keys.ensures.inner c.masked_keys-keys.ensures.outer c.args.salt.now rounds c.args.number)
