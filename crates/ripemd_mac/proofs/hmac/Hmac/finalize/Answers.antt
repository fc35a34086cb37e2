use Rattle.std.proofs.Common.{rules}
use Rattle.ripemd_mac.specs.Laws.{tag_of_stands}
use Rattle.ripemd_mac.proofs.hmac.Hmac.finalize.Goals as goal

pub returns-clause-text : goal.returns-clause-text
returns-clause-text g c key text stands = tag_of_stands (search rules) stands
