use Rattle.std.proofs.Common.{refl}
use Rattle.ripemd_block.specs.Standard.{registers_after}
use Rattle.ripemd_block.proofs.registers.lines.round.Goals as goal

pub returns-clause-left : goal.returns-clause-left
unfolding registers_after
returns-clause-left g c block all =
    c.four_steps.ensures.left block _ all
    (c.four_steps-lines-3.ensures.left block _ all
    (c.four_steps-lines-2.ensures.left block _ all (c.four_steps-lines.ensures.left block _ all refl)))

pub returns-clause-right : goal.returns-clause-right
unfolding registers_after
returns-clause-right g c block all =
    c.four_steps.ensures.right block _ all
    (c.four_steps-lines-3.ensures.right block _ all
    (c.four_steps-lines-2.ensures.right block _ all (c.four_steps-lines.ensures.right block _ all refl)))
