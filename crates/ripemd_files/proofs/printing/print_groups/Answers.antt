use Rattle.ripemd_block.proofs.Library.{rules, arith, ◌∙◌, drop-map, take-map}
use Rattle.ripemd_files.proofs.InTurn.{each_none, each_on, first_all, first_on}
use Rattle.ripemd_files.proofs.Printed.{first_from, prints_after, read_more, read_none}
use Rattle.ripemd_files.proofs.printing.print_groups.Goals as goal

pub loop-start-init : goal.loop-start-init
loop-start-init g c = record { printed = each_none read_none read_more _ _; within = omega arith }

pub print_outcomes-requires : goal.print_outcomes-requires
print_outcomes-requires g c = record {
  told = c.loop-start.invariant.printed.tells.works ∙ c.requires.told;
  read = rw c.as_slice.ensures.value (first_from _ c.args.names.now _ c.loop-start.start c.len.result c.loop-start.invariant.within (search rules) c.in_ok-outcomes.ensures).1;
}

pub returns-in_err-outcomes-clause-err : goal.returns-in_err-outcomes-clause-err
returns-in_err-outcomes-clause-err g c = search (rules, first_all read_none read_more _ _ c.loop-start.invariant.printed)

pub returns-in_err-all-clause-err : goal.returns-in_err-all-clause-err
returns-in_err-all-clause-err g c =
    search (rules, first_on read_none read_more _ _ c.loop-start.invariant.printed _ _ _ (rw (← take-map, ← drop-map) at c.in_err-all.ensures.err))

pub loop-start-preserved : goal.loop-start-preserved
loop-start-preserved g c = record {
  printed = each_on read_none read_more _ _ c.loop-start.invariant.printed _ _ _ (omega arith)
      (prints_after (g.F.Folder.place c.args.folder.now) _ _ _ _ _ _ (rw (← take-map, ← drop-map) at c.in_ok-all.ensures.ok));
  within = (first_from _ c.args.names.now _ c.loop-start.start c.len.result c.loop-start.invariant.within (search rules) c.in_ok-outcomes.ensures).0;
}
