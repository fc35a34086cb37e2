-- The definitions compute the digests.
use Rattle.std.proofs.Common.{refl}
use Rattle.ripemd_block.specs.Standard.{registers_after, lines_after, compress, with_padding, blocks, hash}
use Rattle.ripemd_block.proofs.facts.published_digests.Goals as goal

pub returns : goal.returns
unfolding registers_after lines_after compress with_padding blocks hash
returns c = record {
  empty = record { of128 = refl; of160 = refl; of256 = refl; of320 = refl };
  abc = record { of128 = refl; of160 = refl; of256 = refl; of320 = refl };
  two_blocks = record { of128 = refl; of160 = refl; of256 = refl; of320 = refl };
  digits = record { of128 = refl; of160 = refl; of256 = refl; of320 = refl };
}
