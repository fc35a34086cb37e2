-- The sum is that of the bytes so far.
use Rattle.ripemd_block.proofs.Library.{◌≡◌, ◌+◌, ◌%◌, take, fold}
use Rattle.ripemd_tests.proofs.bytes.sum_from.Given as goal

abbrev pub invariant-loop-byte : goal.invariant-loop-byte
invariant-loop-byte l = l.sum ≡ fold (λ sum byte. (sum + byte) % 256) l.start (take l.byte-index l.bytes)
