use Rattle.std.proofs.Common.{◌≡◌, ◌-◌, length, arith}
use Rattle.ripemd_block.proofs.Absorbing.{slice_from}
use Rattle.ripemd_block.proofs.Writing.{ends_written}
use Rattle.ripemd_block.proofs.arrays.write_ends.Goals as goal

pub returns : goal.returns
returns g c =
    let n = g.row.N in
    let bytes = c.args.bytes.now in
    let len = length bytes in
    let few = c.requires.few in
    let last : len - (len - n) ≡ n = omega (arith, few.0) in
    rw (c.write_array-2.ensures, c.write_array.ensures, slice_from (len - n) bytes, last)
    (ends_written n (len - n) c.args.place.now bytes (omega (arith, few.0)) few.1 c.requires.room)
