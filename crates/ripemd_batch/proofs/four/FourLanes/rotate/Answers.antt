use Rattle.std.proofs.Common.{arith}
use Rattle.ripemd_batch.proofs.Rotating.{shifts_rotate}
use Rattle.ripemd_batch.proofs.four.FourLanes.rotate.Goals as goal

pub returns : goal.returns
returns c = rw (← c.self.view_is) (shifts_rotate c.args.by c.requires.0 c.requires.1 4 c.self.inside.0 (omega arith))
