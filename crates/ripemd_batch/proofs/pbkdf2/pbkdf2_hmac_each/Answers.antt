use Rattle.ripemd_block.proofs.Library.{◌≡◌, ℕ, ◌+◌, ◌-◌, ◌*◌, ◌≤◌, List, ◌++◌, length, ap, sym, ◌∙◌, arith, mul-le-mul_left, range_with_len, flat_map}
use Rattle.ripemd_block.specs.Standard.{hash}
use Rattle.ripemd_mac.specs.Hmac.{hmac}
use Rattle.ripemd_mac.specs.Pbkdf2.{pbkdf2}
use Rattle.ripemd_mac.proofs.Deriving.{next_joined, front_put, part_size, put_size}
use Rattle.ripemd_batch.specs.Lanes.{list_at, targets}
use Rattle.ripemd_batch.proofs.pbkdf2.pbkdf2_hmac_each.Goals as goal

pub loop-i-preserved : goal.loop-i-preserved
loop-i-preserved g c =
    let d = g.D.Digest in
    let tag = hmac (hash d.start d.step d.output) in
    let passwords = targets c.args.passwords.now in
    let salts = targets c.args.salts.now in
    let size : ℕ = c.args.size in
    let i : ℕ = c.loop-i.i in
    let at : ℕ = size * i in
    let keys = c.loop-i.keys in
    let key = c.write_key.new.key in
    let f : ℕ → List ℕ = λ i. pbkdf2 tag g.D.OutputSizeUser.OUTPUT_SIZE (list_at passwords i) (list_at salts i) c.args.rounds size in
    let inside : at + size ≤ length keys = omega (
      arith,
      c.loop-i.invariant.len,
      c.requires.room,
      mul-le-mul_left size c.loop-i-test.true,
    ) in
    let whole : key ≡ f i = c.write_key.ensures.key ∙ ap (pbkdf2 tag g.D.OutputSizeUser.OUTPUT_SIZE (list_at passwords i) (list_at salts i) c.args.rounds)
    (part_size keys at size inside) in
    let many : length key ≡ size = c.write_key.auto.key ∙ part_size keys at size inside in
    record {
      len = put_size keys key at (at + size - at) (omega (arith, many)) (omega (arith, inside)) ∙ c.loop-i.invariant.len;
      group = c.write_key.ensures.group;
      so_far = front_put keys key _ at (size * (i + 1)) (omega (arith, inside)) (omega (arith, many))
          ∙ ap (λ x. x ++ key) c.loop-i.invariant.so_far ∙ ap (λ x. flat_map f (range_with_len 0 i) ++ x) whole
          ∙ sym (next_joined f 0 i i (omega arith));
    }
