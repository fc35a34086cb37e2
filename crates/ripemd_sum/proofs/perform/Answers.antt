use Rattle.std.proofs.Common.{arith}
use Rattle.ripemd_sum.proofs.perform.Goals as goal

-- no arguments ask for both a digest and a tag
pub returns-in-Some-clause-tag : goal.returns-in-Some-clause-tag
returns-in-Some-clause-tag g c v count key chosen has_key = grind (arith, c.choose.ensures c.in-Some.variant)

pub returns-in-Some-clause-none : goal.returns-in-Some-clause-none
returns-in-Some-clause-none g c = grind (arith, c.choose.ensures c.in-Some.variant)

pub returns-clause-none : goal.returns-clause-none
returns-clause-none g c = grind (arith, (c.choose_mac.ensures.chosen _ _).0 c.in_ok-variant.was)
