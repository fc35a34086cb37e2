use Rattle.ripemd_block.proofs.Library.{arith, sym, ◌∙◌, length, ap, [], slice_get-get_or, slice_get_past}
use Rattle.ripemd_block.proofs.PaddedBlocks.{last_block}
use Rattle.ripemd_block.proofs.padding.pad_block.Goals as goal

pub returns-then-behind-last : goal.returns-then-behind-last
returns-then-behind-last c =
    let whole = ap length c.whole_blocks.ensures.whole in
    let last = last_block c.args.message.now c.args.place c.last_blocks-last.result.now c.last_blocks-last.ensures.value
    c.whole_blocks.ensures.tail (omega arith) (omega arith) in
    sym (slice_get-get_or c.last_blocks-last.result.now _ [] (omega arith)) ∙ rw (← whole) at last

pub returns-else-behind-last : goal.returns-else-behind-last
returns-else-behind-last c =
    let whole = ap length c.whole_blocks.ensures.whole in
    let last = last_block c.args.message.now c.args.place c.last_blocks-last.result.now c.last_blocks-last.ensures.value
    c.whole_blocks.ensures.tail (omega arith) (omega arith) in
    sym (slice_get_past c.last_blocks-last.result.now _ (omega arith)) ∙ rw (← whole) at last
