-- The definitions compute the lines.
use Rattle.std.proofs.Common.{rules}
use Rattle.hex.specs.Hex.{encode_with}
use Rattle.ripemd.specs.Standard.{registers_after, lines_after, compress, with_padding, blocks, hash}
use Rattle.ripemd_mac.specs.Hmac.{key_block, inner_message, outer_message, hmac}
use Rattle.ripemd_sum.proofs.facts.worked_lines.Goals as goal

pub returns : goal.returns
unfolding encode_with registers_after lines_after compress with_padding blocks hash key_block inner_message outer_message hmac
returns c = search rules
