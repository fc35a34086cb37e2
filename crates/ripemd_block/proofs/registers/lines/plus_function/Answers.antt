use Rattle.std.proofs.Common.{refl}
use Rattle.ripemd_block.proofs.registers.lines.plus_function.Goals as goal

pub returns-in-2 : goal.returns-in-2
returns-in-2 c = rw c.in-2.is refl
