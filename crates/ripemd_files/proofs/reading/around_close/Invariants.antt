use Rattle.std.proofs.Common.{◌≡◌, drop, None}
use Rattle.ripemd_files.specs.Reading.{split_close}
use Rattle.ripemd_files.proofs.reading.around_close.Given as goal

-- none stands in what was passed
abbrev pub invariant-loop-place : goal.invariant-loop-place
invariant-loop-place l = split_close (drop l.place l.text) ≡ None
