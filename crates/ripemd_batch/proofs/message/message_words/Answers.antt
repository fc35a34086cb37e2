use Rattle.std.proofs.Common.{arith}
use Rattle.ripemd_batch.proofs.EightLanes.{below_sixteen}
use Rattle.ripemd_batch.proofs.message.message_words.Goals as goal

pub returns : goal.returns
returns g c j h =
    let a = c.four_message_words.ensures in
    let b = c.four_message_words-2.ensures in
    let d = c.four_message_words-3.ensures in
    let e = c.four_message_words-4.ensures in
    below_sixteen _ (a 0 (omega arith) j h _) (a 1 (omega arith) j h _) (a 2 (omega arith) j h _) (a 3 (omega arith) j h _)
    (b 0 (omega arith) j h _) (b 1 (omega arith) j h _) (b 2 (omega arith) j h _) (b 3 (omega arith) j h _)
    (d 0 (omega arith) j h _) (d 1 (omega arith) j h _) (d 2 (omega arith) j h _) (d 3 (omega arith) j h _)
    (e 0 (omega arith) j h _) (e 1 (omega arith) j h _) (e 2 (omega arith) j h _) (e 3 (omega arith) j h _)
