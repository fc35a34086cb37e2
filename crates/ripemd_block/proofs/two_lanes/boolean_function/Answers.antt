use Rattle.std.proofs.Common.{◌≡◌, refl, arith}
use Rattle.ripemd_block.proofs.Tables.{elements}
use Rattle.ripemd_block.proofs.TwoLanes.{each_lane}
use Rattle.ripemd_block.proofs.two_lanes.boolean_function.Goals as goal
use Rattle.ripemd_block.proofs.two_lanes.boolean_function.Goals.{in-0, in-1, in-2, in-3, in_default}

pub returns : goal.returns
returns c =
    let x = elements 2 0 c.args.x c.fits-x.0 in
    let y = elements 2 0 c.args.y c.fits-y.0 in
    let z = elements 2 0 c.args.z c.fits-z.0 in
    elim c.match-k.branch [
      | in-0 w ↦ rw (w.result-is, w.in-0.is, x, y, z) (each_lane _ refl refl)
      | in-1 w ↦ rw (w.result-is, w.in-1.is, x, y, z) (each_lane _ refl refl)
      | in-2 w ↦ rw (w.result-is, w.in-2.is, x, y, z) (each_lane _ refl refl)
      | in-3 w ↦ rw (w.result-is, w.in-3.is, x, y, z) (each_lane _ refl refl)
      | in_default w ↦ let four : c.args.k ≡ 4 = omega arith in rw (w.result-is, four, x, y, z) (each_lane _ refl refl)
    ]
