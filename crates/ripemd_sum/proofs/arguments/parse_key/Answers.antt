use Rattle.std.proofs.Common.{◌/◌, length, arith, length-take-le}
use Rattle.hex.proofs.HexLemmas.{IsOk-decode_sized, IsOk-written}
use Rattle.ripemd_sum.proofs.arguments.parse_key.Goals as goal

pub returns-in_err-ok-clause-length : goal.returns-in_err-ok-clause-length
returns-in_err-ok-clause-length c n =
    let half = length c.args.text.now / 2 in
    let room = length-take-le half c.args.out.now (omega arith) in
    let written = IsOk-written _ _ _ c.decode_to_slice.ensures.value in
    grind (arith, IsOk-decode_sized c.args.text.now half)

pub returns-clause-length : goal.returns-clause-length
returns-clause-length c n =
    let half = length c.args.text.now / 2 in
    let room = length-take-le half c.args.out.now (omega arith) in
    let written = IsOk-written _ _ _ c.decode_to_slice.ensures.value in
    grind (arith, IsOk-decode_sized c.args.text.now half)
