use Rattle.ripemd_block.proofs.Library.{◌<◌, arith, Each2-of, Each1-from_get_or}
use Rattle.ripemd_block.proofs.two_lanes.rotate.Goals as goal

pub overflow_shl-result : goal.overflow_shl-result
overflow_shl-result c =
    let small = Each1-from_get_or (λ n. n < 32) c.args.amounts 0 (λ j within. (c.requires j (omega arith)).1) in
    Each2-of _ (λ n. n < 32) _ (λ a b p q. q) c.args.words c.args.amounts c.fits-words.1 small
