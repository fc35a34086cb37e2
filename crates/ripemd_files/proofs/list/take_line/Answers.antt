use Rattle.std.proofs.Common.{rules}
use Rattle.ripemd_files.proofs.Listed.{takes_misformatted, takes_said, takes_skipped}
use Rattle.ripemd_files.proofs.list.take_line.Goals.{in-Ok, in-Err}
use Rattle.ripemd_files.proofs.list.take_line.Goals as goal

pub returns-then-is_skipped-clause-takes : goal.returns-then-is_skipped-clause-takes
returns-then-is_skipped-clause-takes c =
    takes_skipped _ c.args.cursor.now _ c.args.text.now (search rules) (search rules) _

pub returns-in-None-clause-takes : goal.returns-in-None-clause-takes
returns-in-None-clause-takes c =
    takes_misformatted _ c.args.cursor.now _ c.args.text.now c.read_entry.ensures.layout (search rules)
    (rw c.in-None.is at c.in_ok-read_entry.ensures.entry) _

pub returns-after-push-clause-takes : goal.returns-after-push-clause-takes
returns-after-push-clause-takes c = elim c.match-push.branch [
  | in-Ok w ↦ rw (w.result-is, c.push.ensures.items, w.in-Ok.is)
      (takes_said _ c.args.cursor.now _ c.args.text.now c.read_entry.ensures.layout (search rules) c.in-Some.line
      (rw c.in-Some.is at c.in_ok-read_entry.ensures.entry) _)
  | in-Err w ↦ rw w.result-is tt
]
