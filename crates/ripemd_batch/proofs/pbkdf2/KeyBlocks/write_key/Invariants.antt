-- The blocks so far are written, and the group has those of the next one.
use Rattle.std.proofs.Common.{◌+◌, ◌*◌, length}
use Rattle.ripemd_block.specs.Standard.{hash}
use Rattle.ripemd_mac.specs.Hmac.{hmac}
use Rattle.ripemd_mac.specs.Pbkdf2.{F}
use Rattle.ripemd_mac.proofs.Deriving.{Written}
use Rattle.ripemd_batch.specs.Pbkdf2.{InGroup}
use Rattle.ripemd_batch.specs.Lanes.{list_at}
use Rattle.ripemd_batch.proofs.pbkdf2.KeyBlocks.write_key.Given as goal

abbrev pub invariant-loop-b : goal.invariant-loop-b
invariant-loop-b g l =
    let tag = hmac (hash g.D.Digest.start g.D.Digest.step g.D.Digest.output) in
    record {
      group : InGroup g.D.OutputSizeUser.OUTPUT_SIZE tag l.self (l.self.count * l.i + l.b) l.group;
      written : Written (F tag (list_at l.self.passwords l.i) (list_at l.self.salts l.i) l.self.rounds) l.size (length l.fn.key) l.b l.key;
    }
