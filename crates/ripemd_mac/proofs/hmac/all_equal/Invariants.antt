-- The difference so far is 0 exactly if the bytes so far agree.
use Rattle.std.proofs.Common.{◌≡◌, ◌↔◌}
use Rattle.ripemd_mac.proofs.Differences.{AgreeTo}
use Rattle.ripemd_mac.proofs.hmac.all_equal.Given as goal

abbrev pub invariant-loop-i : goal.invariant-loop-i
invariant-loop-i l = (l.difference ≡ 0) ↔ AgreeTo l.i l.a l.b
