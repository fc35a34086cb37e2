use Rattle.ripemd.proofs.Library.{IfOk-weaker}
use Rattle.ripemd_sum.proofs.engine.hash_reader.Goals as goal

-- a hasher has one origin
pub returns-clause-ok : goal.returns-clause-ok
returns-clause-ok g c = IfOk-weaker c.read_to_end.result _ _ (λ digest given. (given.0, given.1, given.2 tt c.new.ensures)) c.read_to_end.ensures.ok
