use Rattle.ripemd_block.proofs.Library.{length, sym, ap, ◌∙◌, flat_map-map}
use Rattle.std.proofs.Common.{flat_map}
use Rattle.ripemd_batch.specs.Lanes.{targets}
use Rattle.ripemd_batch.proofs.Chunks.{joined_chunks}
use Rattle.ripemd_batch.proofs.lists.ListHasher.write_joined.Goals as goal

pub returns : goal.returns
returns g c =
    let same = g.met.D.BatchDigest in
    let messages = c.args.messages.now in
    rw (← same.same_step, ← same.same_output)
    (sym (joined_chunks g.D.Output.ByteArray.LEN (length messages) c.put_each.new.places same.some_bytes (c.put_each.auto.places ∙ c.requires))
    ∙ ap (flat_map (λ x. x)) c.put_each.ensures ∙ flat_map-map (λ x. x) _ (targets messages))
