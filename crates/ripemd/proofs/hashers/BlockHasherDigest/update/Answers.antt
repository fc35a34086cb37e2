use Rattle.std.proofs.Common.{rules}
use Rattle.ripemd_block.specs.States.{fed}
use Rattle.ripemd.specs.Laws.{hashing_more}
use Rattle.ripemd.proofs.hashers.BlockHasherDigest.update.Goals as goal

pub returns-clause-message : goal.returns-clause-message
unfolding fed
returns-clause-message g c message before = hashing_more c.args.bytes.now (search rules) before
