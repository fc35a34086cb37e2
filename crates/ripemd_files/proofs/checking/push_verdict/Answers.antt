use Rattle.ripemd_files.proofs.checking.push_verdict.Goals as goal

pub returns-in-Unreadable : goal.returns-in-Unreadable
returns-in-Unreadable c = rw (c.in-Unreadable.is, c.if-options.false) c.push_shown-in-Unreadable.ensures
