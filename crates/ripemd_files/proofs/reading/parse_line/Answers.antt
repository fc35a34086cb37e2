use Rattle.std.proofs.lemmas.Result.{IfOk-weaker}
use Rattle.ripemd_files.proofs.Sayings.{found_is_line}
use Rattle.ripemd_files.proofs.reading.parse_line.Goals as goal

pub returns-clause-found : goal.returns-clause-found
returns-clause-found c = IfOk-weaker _ _ _ (λ found e. found_is_line c.args.layout c.args.line.now found e) (rw c.parse_listed.ensures.layout at c.parse_listed.ensures.line)
