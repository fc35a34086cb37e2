use Rattle.ripemd_block.proofs.Library.{◌∙◌, refl, arith, w8, Fits, take_all, Each1-from_get_or, below_from_Fits, get_or_wider, fill_by_all}
use Rattle.ripemd_block.specs.Standard.{message_word}
use Rattle.ripemd_block.specs.Code.{message_words}
use Rattle.ripemd_block.proofs.Reading.{word_of_bytes}
use Rattle.ripemd_block.proofs.message.message_words.Goals as goal

pub returns : goal.returns
unfolding message_words
returns c =
    let block = c.args.block.now in
    let bytes = below_from_Fits w8 block (Each1-from_get_or (Fits w8) block 0 (λ k within. c.type_inv.block k)) in
    rw (take_all 64 block (omega arith))
    (fill_by_all (message_word block) _ 16 0 refl
    (λ j small. get_or_wider 256 4 4294967296 16 block j refl bytes small ∙ word_of_bytes block j (omega arith)))
