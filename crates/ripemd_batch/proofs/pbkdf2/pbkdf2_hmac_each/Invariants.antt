-- The keys so far are written, and the group has the first blocks of the next one.
use Rattle.ripemd_block.proofs.Library.{◌≡◌, ◌*◌, length, take, range_with_len, flat_map}
use Rattle.ripemd_block.specs.Standard.{hash}
use Rattle.ripemd_mac.specs.Hmac.{hmac}
use Rattle.ripemd_mac.specs.Pbkdf2.{pbkdf2}
use Rattle.ripemd_batch.specs.Pbkdf2.{InGroup}
use Rattle.ripemd_batch.specs.Lanes.{list_at, targets}
use Rattle.ripemd_batch.proofs.pbkdf2.pbkdf2_hmac_each.Given as goal

abbrev pub invariant-loop-i : goal.invariant-loop-i
invariant-loop-i g l =
    let d = g.D.Digest in
    let tag = hmac (hash d.start d.step d.output) in
    let passwords = targets l.fn.passwords in
    let salts = targets l.fn.salts in
    record {
      len : length l.keys ≡ length l.fn.keys;
      group : InGroup g.D.OutputSizeUser.OUTPUT_SIZE tag l.of (l.of.count * l.i) l.group;
      so_far : take (l.size * l.i) l.keys
          ≡ flat_map (λ i. pbkdf2 tag g.D.OutputSizeUser.OUTPUT_SIZE (list_at passwords i) (list_at salts i) l.rounds l.size) (range_with_len 0 l.i);
    }
