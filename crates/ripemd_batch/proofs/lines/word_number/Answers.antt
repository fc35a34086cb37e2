use Rattle.ripemd_batch.proofs.lines.word_number.Goals as goal

pub returns-in-Right-clause-value : goal.returns-in-Right-clause-value
returns-in-Right-clause-value c rounds = rw c.in-Right.is (c.right_number.ensures.value rounds)
