use Rattle.std.proofs.Common.{rules}
use Rattle.ripemd_mac.specs.Laws.{stands_for_more}
use Rattle.ripemd_mac.proofs.hmac.Hmac.update.Goals as goal

pub returns-clause-text : goal.returns-clause-text
returns-clause-text g c key text stands = stands_for_more c.args.bytes.now (search rules) stands
