-- The table lists the constants of the rounds, which compute.
use Rattle.std.proofs.Common.{◌+◌, arith, le-leb}
use Rattle.ripemd_block.specs.Standard.{cube_root_constant}
use Rattle.ripemd_block.proofs.Tables.{value_at}
use Rattle.ripemd_block.proofs.textbook.right_constant.Goals as goal

pub returns-then-r-rounds : goal.returns-then-r-rounds
returns-then-r-rounds c =
    rw (le-leb (c.args.r + 2) c.args.rounds (omega arith)) (value_at cube_root_constant 4 c.args.r 0 (omega arith))
