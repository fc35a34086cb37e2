use Rattle.std.proofs.Common.{rules, arith}
use Rattle.ripemd_files.proofs.Checked.{counts_more, counts_none}
use Rattle.ripemd_files.proofs.InTurn.{each_none, each_on, first_all, first_on}
use Rattle.ripemd_files.proofs.checking.check_lines.Goals as goal

pub loop-start-init : goal.loop-start-init
loop-start-init g c = record { checked = each_none counts_none counts_more _ _; within = omega arith }

pub loop-start-preserved : goal.loop-start-preserved
loop-start-preserved g c = record {
  checked = each_on counts_none counts_more _ _ c.loop-start.invariant.checked _ _ _ (omega arith) c.in_ok-check_outcomes.ensures.ok;
  within = omega (arith, c.in_ok-outcomes.ensures.within);
}

pub returns-in_err-outcomes-clause-err : goal.returns-in_err-outcomes-clause-err
returns-in_err-outcomes-clause-err g c = search (rules, first_all counts_none counts_more _ _ c.loop-start.invariant.checked)

pub returns-in_err-check_outcomes-clause-err : goal.returns-in_err-check_outcomes-clause-err
returns-in_err-check_outcomes-clause-err g c = search (rules, first_on counts_none counts_more _ _ c.loop-start.invariant.checked)
