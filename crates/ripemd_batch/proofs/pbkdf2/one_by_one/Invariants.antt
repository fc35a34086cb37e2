-- The last tag, and the exclusive or of all so far, filled with zeros.
use Rattle.ripemd_block.proofs.Library.{◌≡◌, ◌-◌, length, iterate}
use Rattle.ripemd_mac.specs.Hmac.{filled}
use Rattle.ripemd_batch.specs.Pbkdf2.{combined_tags, tag_after}
use Rattle.ripemd_batch.proofs.pbkdf2.one_by_one.Given as goal

abbrev pub invariant-loop-k : goal.invariant-loop-k
invariant-loop-k g l =
    let d = g.D.Digest in
    let list = g.D.Function.ListBlockFunction.list in
    let bytes_of = g.D.OutputSizeUser.bytes_of in
    let tag_of = tag_after d.step d.output (list l.fn.chain.inner) (list l.fn.chain.outer) in
    let first = d.output (list l.fn.chain.first) in
    record {
      tag : bytes_of l.tag ≡ iterate tag_of (l.k - 1) first;
      sum : l.sum ≡ filled (combined_tags tag_of l.k first);
      size : length (combined_tags tag_of l.k first) ≡ g.D.OutputSizeUser.OUTPUT_SIZE;
    }
