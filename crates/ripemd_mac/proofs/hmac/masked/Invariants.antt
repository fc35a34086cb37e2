-- The bytes so far are masked, and the others are those of the block.
use Rattle.std.proofs.Common.{◌≡◌, ◌++◌, drop, length, take}
use Rattle.ripemd_mac.specs.Hmac.{masked}
use Rattle.ripemd_mac.proofs.hmac.masked.Given as goal

abbrev pub invariant-loop-byte : goal.invariant-loop-byte
invariant-loop-byte l = record {
  bytes : l.byte-items ≡ masked l.mask (take l.byte-index l.block) ++ drop l.byte-index l.block;
  size : length l.byte-items ≡ 64;
}
