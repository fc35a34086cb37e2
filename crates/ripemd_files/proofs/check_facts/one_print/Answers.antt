use Rattle.ripemd_files.proofs.Determined as laws
use Rattle.ripemd_files.proofs.check_facts.one_print.Goals as goal

pub returns : goal.returns
returns g c = laws.one_print _
