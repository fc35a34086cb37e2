use Rattle.std.proofs.Common.{refl}
use Rattle.ripemd.specs.Standard.{registers_after, lines_after, compress, with_padding, blocks, hash}
use Rattle.ripemd_mac.specs.Hmac.{key_block, inner_message, outer_message, hmac}
use Rattle.ripemd_mac.proofs.facts.tags.Goals as goal

pub returns : goal.returns
unfolding registers_after lines_after compress with_padding blocks hash key_block inner_message outer_message hmac
returns c = record { of128 = refl; of160 = refl; long_key_of128 = refl; long_key_of160 = refl; whole_block = refl }
