use Rattle.ripemd_batch.proofs.Factored.{f2_complemented}
use Rattle.ripemd_batch.proofs.lines.boolean_function.Goals as goal

pub returns-in-2 : goal.returns-in-2
returns-in-2 g c j h =
    rw (c.in-2.is, c.not-in-2.ensures.value j h, c.xor-in-2.ensures.value j h, c.and-in-2.ensures.value j h, c.not.ensures.value j h)
    (f2_complemented _ _ _ (c.not.ensures.words j h) (c.and-in-2.ensures.words j h) (c.xor-in-2.ensures.other_words j h))
