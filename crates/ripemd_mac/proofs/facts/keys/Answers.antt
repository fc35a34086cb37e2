use Rattle.std.proofs.Common.{refl}
use Rattle.ripemd.specs.Standard.{registers_after, lines_after, compress, with_padding, blocks, hash}
use Rattle.ripemd_mac.specs.Hmac.{key_block, inner_message, outer_message, hmac}
use Rattle.ripemd_mac.specs.Pbkdf2.{U, F, pbkdf2}
use Rattle.ripemd_mac.proofs.facts.keys.Goals as goal

pub returns : goal.returns
unfolding registers_after lines_after compress with_padding blocks hash key_block inner_message outer_message hmac U F pbkdf2
returns c = record { one = refl; two = refl; no_salt = refl; long_password = refl; blocks = refl; large_number = refl }
