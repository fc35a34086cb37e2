use Rattle.ripemd_block.proofs.Library.{refl, zip2_splat}
use Rattle.ripemd_block.specs.Standard.{◌⊞◌}
use Rattle.ripemd_block.specs.Code.{message_words, words_with}
use Rattle.ripemd_block.proofs.registers.lines.words_with.Goals as goal

pub returns : goal.returns
unfolding message_words words_with
returns c = rw c.message_words.ensures (zip2_splat (λ w k. w ⊞ k) (message_words c.args.block.now) 16 c.args.k refl)
