use Rattle.std.proofs.Common.{◌≡◌, drop}
use Rattle.ripemd_files.specs.Reading.{skip_blanks}
use Rattle.ripemd_files.proofs.reading.without_blanks.Given as goal

abbrev pub invariant-loop-place : goal.invariant-loop-place
invariant-loop-place l = skip_blanks (drop l.place l.text) ≡ skip_blanks l.text
