use Rattle.std.proofs.Common.{◌≡◌, false, drop}
use Rattle.ripemd_files.specs.Reading.{unescaped}
use Rattle.ripemd_files.proofs.Places.{with_front}
use Rattle.ripemd_files.proofs.reading.unescape.Given as goal

-- the name so far, and what the rest spells, are what all spells
abbrev pub invariant-loop-byte : goal.invariant-loop-byte
invariant-loop-byte l = with_front l.name.items (unescaped l.escaping (drop l.byte-index l.text)) ≡ unescaped false l.text
