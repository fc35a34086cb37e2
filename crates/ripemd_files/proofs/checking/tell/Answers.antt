use Rattle.std.proofs.Common.{rules}
use Rattle.ripemd_files.proofs.Telling.{pends_no_memory}
use Rattle.ripemd_files.proofs.checking.tell.Goals as goal

pub returns-in_err-push_verdict-clause-err : goal.returns-in_err-push_verdict-clause-err
returns-in_err-push_verdict-clause-err g c = search (rules, pends_no_memory ⊥ _ _ _ _ _ c.in_ok-remark_on.ensures.told)
