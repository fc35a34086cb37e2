use Rattle.ripemd.proofs.Library.{◌≡◌, ℕ, ◌+◌, List, [], ◌++◌, length, ap, sym, ◌∙◌, bit_xor, length-zip2}
use Rattle.ripemd.specs.Standard.{hash}
use Rattle.ripemd_mac.specs.Hmac.{filled, hmac}
use Rattle.ripemd_mac.specs.Pbkdf2.{U, F}
use Rattle.ripemd_mac.proofs.Deriving.{next_U, next_F, combined_filled}
use Rattle.ripemd_mac.proofs.pbkdf2.derived_block.Goals as goal

pub loop-j-init : goal.loop-j-init
unfolding U F
loop-j-init g c password stands =
    let PRF : List ℕ → List ℕ → List ℕ = hmac (hash g.D.Digest.start g.D.Digest.step g.D.Digest.output) in
    let salted = c.update.ensures.text password [] (rw c.duplicate-first.ensures stands) in
    let numbered = c.update-2.ensures.text password c.args.salt.now salted in
    let tag = c.finalize-tag.ensures.text password _ numbered
    ∙ ap (λ bytes. PRF password (c.args.salt.now ++ bytes)) c.to_be_bytes.ensures in
    record {
      tag = tag;
      block = c.filled-block.ensures ∙ ap filled (c.output_bytes.ensures.bytes ∙ tag);
      size = ap length (sym tag) ∙ c.finalize-tag.ensures.size;
    }

pub loop-j-preserved : goal.loop-j-preserved
loop-j-preserved g c password stands =
    let PRF : List ℕ → List ℕ → List ℕ = hmac (hash g.D.Digest.start g.D.Digest.step g.D.Digest.output) in
    let so_far : ℕ → List ℕ = λ k. F PRF password c.args.salt.now k c.args.number in
    let u : ℕ → List ℕ = U PRF password c.args.salt.now c.args.number in
    let j = c.loop-j.j in
    let before = c.loop-j.invariant password stands in
    let tag : g.D.OutputSizeUser.bytes_of c.next_tag-tag.result ≡ u (j + 1) = c.next_tag-tag.ensures.tag password stands
    ∙ ap (PRF password) before.tag ∙ sym (next_U PRF password c.args.salt.now c.args.number j c.loop-j.auto.j) in
    let next = next_F PRF password c.args.salt.now c.args.number j c.loop-j.auto.j in
    let same : length (so_far j) ≡ length (u (j + 1)) = before.size ∙ sym c.next_tag-tag.ensures.size ∙ ap length tag in
    record {
      tag = tag;
      block = cc (combined_filled (so_far j) (u (j + 1)) same);
      size = cc (length-zip2 bit_xor (so_far j) (u (j + 1)) same);
    }
