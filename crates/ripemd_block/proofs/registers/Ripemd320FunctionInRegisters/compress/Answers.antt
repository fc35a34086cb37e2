use Rattle.std.proofs.Common.{◌∙◌}
use Rattle.ripemd_block.specs.Standard.{ripemd320}
use Rattle.ripemd_block.proofs.Stepping.{no_rounds, next_round, compress_from}
use Rattle.ripemd_block.proofs.registers.Ripemd320FunctionInRegisters.compress.Goals as goal

pub returns-clause-value : goal.returns-clause-value
returns-clause-value c =
    let words = c.words_of_five_rounds-words.ensures in
    c.double_state_of_five.ensures ∙ compress_from (next_round (next_round (next_round (next_round (next_round
    (no_rounds ripemd320 c.args.state c.args.block.now c.lines_of_320.ensures)
    c.round.ensures.left c.round.ensures.right c.exchange-lines.ensures words)
    c.round-2.ensures.left c.round-2.ensures.right c.exchange-lines-2.ensures words)
    c.round-3.ensures.left c.round-3.ensures.right c.exchange-lines-3.ensures words)
    c.round-4.ensures.left c.round-4.ensures.right c.exchange-lines-4.ensures words)
    c.round-5.ensures.left c.round-5.ensures.right c.exchange-lines-5.ensures words)
