use Rattle.std.proofs.Common.{◌≡◌, ◌++◌, take, flat_map}
use Rattle.ripemd_files.specs.Lines.{escape_of}
use Rattle.ripemd_files.proofs.writing.push_text.Given as goal

abbrev pub invariant-loop-byte : goal.invariant-loop-byte
invariant-loop-byte l = l.line.items ≡ l.fn.line.items ++ flat_map escape_of (take l.byte-index l.name)
