use Rattle.std.proofs.Common.{◌≡◌, ◌++◌, take, drop}
use Rattle.rmdsum.specs.Arguments.{before_equals, after_equals}
use Rattle.rmdsum.proofs.switches.around_equals.Given as goal

abbrev pub invariant-loop-place : goal.invariant-loop-place
invariant-loop-place l = (before_equals l.text ≡ take l.place l.text ++ before_equals (drop l.place l.text)) × (after_equals l.text ≡ after_equals (drop l.place l.text))
