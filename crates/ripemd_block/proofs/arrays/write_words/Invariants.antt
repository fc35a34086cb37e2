-- The bytes so far are those of the words so far.
use Rattle.std.proofs.Common.{◌≡◌, ◌*◌, length, take}
use Rattle.ripemd_block.specs.Standard.{word_bytes}
use Rattle.ripemd_block.proofs.arrays.write_words.Given as goal

abbrev pub invariant-loop-i : goal.invariant-loop-i
invariant-loop-i l = record {
  bytes : take (4 * l.i) l.out ≡ word_bytes (take l.i l.words);
  size : length l.out ≡ 4 * length l.words;
}
