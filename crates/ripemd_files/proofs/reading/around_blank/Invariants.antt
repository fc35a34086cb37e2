use Rattle.std.proofs.Common.{◌≡◌, ◌++◌, take, drop, option_map}
use Rattle.ripemd_files.specs.Reading.{split_blank}
use Rattle.ripemd_files.proofs.reading.around_blank.Given as goal

-- what stands before a blank so far, and the parts of the rest, are the parts of all
abbrev pub invariant-loop-place : goal.invariant-loop-place
invariant-loop-place l = option_map (λ parts. (take l.place l.text ++ parts.0, parts.1)) (split_blank (drop l.place l.text)) ≡ split_blank l.text
