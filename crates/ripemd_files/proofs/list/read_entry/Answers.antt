use Rattle.std.proofs.Common.{rules}
use Rattle.ripemd_files.proofs.Listed.{not_taken, not_counted}
use Rattle.ripemd_files.proofs.list.read_entry.Goals.{in_default-via-in-Some+else-is_taken, in_default-via-in_default}
use Rattle.ripemd_files.proofs.list.read_entry.Goals as goal

pub returns-in_default-clause-entry : goal.returns-in_default-clause-entry
returns-in_default-clause-entry c =
    let reads = rw c.without_return.ensures at c.in_ok-line.ensures.line in
    elim c.in_default.branch [
      | in_default-via-in-Some+else-is_taken w ↦
          not_counted c.args.rules c.parse_listed.new.layout c.args.text.now _ reads w.in-Some.line w.in-Some.is
          (λ both. absurd (search (rules, w.is_taken.ensures.1 both, w.if-is_taken.false)))
      | in_default-via-in_default w ↦ not_taken c.args.rules c.parse_listed.new.layout c.args.text.now _ reads w.in_default.is
    ]
