use Rattle.std.proofs.Common.{refl, ◌∙◌, arith}
use Rattle.ripemd_block.specs.Standard.{ripemd128}
use Rattle.ripemd_block.proofs.Stepping.{lines_of_whole, no_rounds, next_round, compress_from}
use Rattle.ripemd_block.proofs.registers.Ripemd128FunctionInRegisters.compress.Goals as goal

pub returns-clause-value : goal.returns-clause-value
returns-clause-value c =
    let words = c.words_of_four_rounds-words.ensures in
    c.joint_state_of_four.ensures ∙ compress_from (next_round (next_round (next_round (next_round
    (no_rounds ripemd128 c.args.state c.args.block.now (lines_of_whole ripemd128 c.args.state (omega arith)))
    c.round-lines.ensures.left c.round-lines.ensures.right refl words)
    c.round-lines-2.ensures.left c.round-lines-2.ensures.right refl words)
    c.round-lines-3.ensures.left c.round-lines-3.ensures.right refl words)
    c.round-lines-4.ensures.left c.round-lines-4.ensures.right refl words)
