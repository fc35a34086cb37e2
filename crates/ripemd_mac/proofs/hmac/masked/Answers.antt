use Rattle.ripemd.proofs.Library.{ℕ, ◌<◌, arith, get_or, length, rules, get_or_default, map_over_more}
use Rattle.std.specs.Int.Bits.{bit_xor}
use Rattle.ripemd_mac.proofs.hmac.masked.Goals as goal

pub loop-byte-preserved : goal.loop-byte-preserved
loop-byte-preserved c =
    let mask = c.args.mask in
    let bytes = c.loop-byte.byte-items in
    let i = c.loop-byte.byte-index in
    let within : i < length bytes = omega (arith, c.loop-byte.invariant.size) in
    record {
      bytes = map_over_more (λ (b : ℕ). bit_xor b mask) c.args.block.now bytes i (get_or bytes i 0)
          (omega arith) c.loop-byte.invariant.bytes (get_or_default bytes i 0 _ within);
      size = search (rules, c.loop-byte.invariant.size);
    }
