use Rattle.ripemd_block.proofs.Library.{◌≡◌, ℕ, ◌*◌, ◌∙◌, length, ap, arith, Fits, take_all, Each1-from_get_or, below_from_Fits, digits_l, number_l}
use Rattle.std.proofs.Common.{w32}
use Rattle.ripemd_block.proofs.Writing.{words_narrowed}
use Rattle.ripemd_block.proofs.padding.block_of.Goals as goal

pub returns : goal.returns
returns c =
    let words = c.args.words.now in
    let size : 64 ≡ 4 * length words = omega (arith, c.requires) in
    let fit = below_from_Fits w32 words (Each1-from_get_or (Fits w32) words 0 (λ k within. c.type_inv.words k)) in
    rw (take_all 16 words (omega (arith, c.requires)))
    (ap (λ (n : ℕ). digits_l 256 n (number_l 4294967296 words)) size ∙ words_narrowed words fit)
