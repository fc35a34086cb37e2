use Rattle.ripemd_block.specs.Standard.{left_line, right_line}
use Rattle.ripemd_block.proofs.Stepping.{word_with_constant, one_more_joined_step}
use Rattle.ripemd_block.proofs.registers.lines.step_at.Goals as goal

pub returns-clause-left : goal.returns-clause-left
returns-clause-left g c block start words before =
    let r = c.args.r in
    let number = c.left_number-left.ensures in
    let word = word_with_constant left_line g.row.N block r c.left_number-left.result _ words.left c.requires.round number.small in
    one_more_joined_step left_line block r c.args.i start (g.R.LineRegisters.list c.args.lines.left) (g.R.LineRegisters.list c.step.result) _ _ _ (number.value) word
    c.rotation-left_amount.ensures.value before c.step.ensures

pub returns-clause-right : goal.returns-clause-right
returns-clause-right g c block start words before =
    let r = c.args.r in
    let number = c.right_number-right.ensures in
    let word = word_with_constant (right_line g.row.N) g.row.N block r c.right_number-right.result _ words.right c.requires.round number.small in
    one_more_joined_step (right_line g.row.N) block r c.args.i start (g.R.LineRegisters.list c.args.lines.right) (g.R.LineRegisters.list c.step-2.result) _ _ _ (number.value g.row.N) word
    c.rotation-right_amount.ensures.value before c.step-2.ensures
