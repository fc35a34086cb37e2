use Rattle.std.proofs.Common.{drop}
use Rattle.rmdsum.specs.Arguments.{letters_say}
use Rattle.rmdsum.proofs.Readings.{ReadsOn}
use Rattle.rmdsum.proofs.arguments.read_short.Given as goal

abbrev pub invariant-loop-place : goal.invariant-loop-place
invariant-loop-place l = ReadsOn (letters_say l.letters) l.initial.settings (letters_say (drop l.place l.letters)) l.settings
