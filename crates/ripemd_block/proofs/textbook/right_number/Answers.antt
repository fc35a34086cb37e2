-- The table lists the word numbers of the right line, which compute.
use Rattle.ripemd_block.specs.Standard.{right_line}
use Rattle.ripemd_block.proofs.Tables.{entry_at}
use Rattle.ripemd_block.proofs.textbook.right_number.Goals as goal

pub returns-clause-value : goal.returns-clause-value
returns-clause-value c rounds = entry_at (right_line 5).word_number 5 16 c.args.r c.args.i 0 c.requires.round c.requires.step
