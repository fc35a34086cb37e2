use Rattle.ripemd_files.proofs.Sayings.{one_line}
use Rattle.ripemd_files.proofs.facts.one_meaning.Goals as goal

pub returns : goal.returns
returns c = one_line
