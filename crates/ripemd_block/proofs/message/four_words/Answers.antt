use Rattle.ripemd_block.proofs.Library.{◌*◌, ◌∙◌, refl, arith, w8, chunk, chunk-fits, below_from_Fits, get_or_wider}
use Rattle.ripemd_block.proofs.Reading.{word_in_chunk}
use Rattle.ripemd_block.proofs.message.four_words.Goals as goal

pub returns-clause-words : goal.returns-clause-words
returns-clause-words c k small =
    let block = c.args.block.now in
    let at = 16 * c.args.i in
    let fit = chunk-fits w8 at 16 block c.type_inv.block in
    get_or_wider 256 4 4294967296 4 (chunk at 16 block) k refl (below_from_Fits w8 (chunk at 16 block) fit) small
    ∙ word_in_chunk block c.args.i k small (omega arith)
