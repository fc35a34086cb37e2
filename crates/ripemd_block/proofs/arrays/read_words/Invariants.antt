-- The words so far have the bytes so far.
use Rattle.std.proofs.Common.{◌≡◌, ◌*◌, length, take}
use Rattle.ripemd_block.specs.Standard.{word_bytes}
use Rattle.ripemd_block.proofs.arrays.read_words.Given as goal

abbrev pub invariant-loop-i : goal.invariant-loop-i
invariant-loop-i l = record {
  bytes : word_bytes (take l.i l.words) ≡ take (4 * l.i) l.bytes;
  size : length l.words ≡ length l.fn.words;
}
