-- The blocks so far are written.
use Rattle.std.proofs.Common.{length}
use Rattle.ripemd.specs.Standard.{hash}
use Rattle.ripemd_mac.specs.Hmac.{hmac}
use Rattle.ripemd_mac.specs.Pbkdf2.{F}
use Rattle.ripemd_mac.proofs.Deriving.{Written}
use Rattle.ripemd_mac.proofs.pbkdf2.pbkdf2_hmac.Given as goal

abbrev pub invariant-loop-i : goal.invariant-loop-i
invariant-loop-i g l =
    Written (F (hmac (hash g.D.Digest.start g.D.Digest.step g.D.Digest.output)) l.password l.salt l.rounds) l.size
    (length l.fn.key) l.i l.key
