use Rattle.std.proofs.Common.{refl}
use Rattle.ripemd_block.specs.Standard.{registers_after}
use Rattle.ripemd_batch.proofs.lines.round.Goals as goal

pub returns-clause-left : goal.returns-clause-left
unfolding registers_after
returns-clause-left g c j h block all =
    let start = g.R.VectorRegisters.lane j c.args.lines.left in
    c.four_steps-left-4.ensures j h block start all (c.four_steps-left-3.ensures j h block start all
    (c.four_steps-left-2.ensures j h block start all (c.four_steps-left.ensures j h block start all refl)))

pub returns-clause-right : goal.returns-clause-right
unfolding registers_after
returns-clause-right g c j h block all =
    let start = g.R.VectorRegisters.lane j c.args.lines.right in
    c.four_steps-right-4.ensures j h block start all (c.four_steps-right-3.ensures j h block start all
    (c.four_steps-right-2.ensures j h block start all (c.four_steps-right.ensures j h block start all refl)))
