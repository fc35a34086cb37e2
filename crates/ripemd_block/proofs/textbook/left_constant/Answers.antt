-- The table lists the constants of the rounds, which compute.
use Rattle.ripemd_block.specs.Standard.{left_line}
use Rattle.ripemd_block.proofs.Tables.{value_at}
use Rattle.ripemd_block.proofs.textbook.left_constant.Goals as goal

pub returns : goal.returns
returns c = value_at left_line.constant 5 c.args.r 0 c.requires
