use Rattle.ripemd_block.proofs.Library.{◌≡◌, ℕ, ◌+◌, ◌-◌, List, length, iterate, bit_xor, length-zip2}
use Rattle.ripemd_mac.proofs.Deriving.{combined_filled}
use Rattle.ripemd_batch.specs.Pbkdf2.{combined_tags, tag_after}
use Rattle.ripemd_batch.proofs.Chaining.{next_tag, next_combined}
use Rattle.ripemd_batch.proofs.pbkdf2.one_by_one.Goals as goal

pub loop-k-init : goal.loop-k-init
unfolding combined_tags
loop-k-init g c =
    let same = g.met.D.BatchDigest in
    let first = c.args.chain.first in
    let tag : g.D.OutputSizeUser.bytes_of c.output-tag.result ≡ g.D.Digest.output (g.D.Function.ListBlockFunction.list first) =
    cc (same.same_bytes c.output-tag.result, g.met.D.Function.ListBlockFunction.over_lists.of_output first, same.same_output) in
    record { tag = tag; sum = cc; size = cc }

pub loop-k-preserved : goal.loop-k-preserved
loop-k-preserved g c =
    let d = g.D.Digest in
    let same = g.met.D.BatchDigest in
    let list = g.D.Function.ListBlockFunction.list in
    let tag_of : List ℕ → List ℕ = tag_after d.step d.output (list c.args.chain.inner) (list c.args.chain.outer) in
    let first : List ℕ = d.output (list c.args.chain.first) in
    let k : ℕ = c.loop-k.k in
    let sum : List ℕ = combined_tags tag_of k first in
    let next : List ℕ = iterate tag_of (k + 1 - 1) first in
    let tag : g.D.OutputSizeUser.bytes_of c.digest_of_digest-next.result ≡ next = cc (
      next_tag tag_of first k c.loop-k.auto.k,
      same.same_bytes c.digest_of_digest-inner.result,
      same.same_bytes c.digest_of_digest-next.result,
      same.same_step,
      same.same_output,
    ) in
    let added = next_combined tag_of first k c.loop-k.auto.k in
    let many : length sum ≡ length next = cc in
    record { tag = tag; sum = cc (added, combined_filled sum next many); size = cc (added, length-zip2 bit_xor sum next many) }
