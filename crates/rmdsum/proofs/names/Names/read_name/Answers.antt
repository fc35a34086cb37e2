use Rattle.std.proofs.Common.{inl}
use Rattle.ripemd_files.proofs.Library.{IfOk-weaker}
use Rattle.rmdsum.proofs.names.Names.read_name.Goals as goal

pub returns-in-Whole-clause-entry : goal.returns-in-Whole-clause-entry
returns-in-Whole-clause-entry g c = rw (c.in-Some.is, c.entry.ensures.reader) (IfOk-weaker c.entry.result _ _ (λ entry is. is _ _ (inl (rw c.in-Whole.is at c.in_ok-read_piece.ensures.piece))) c.entry.ensures.entry)
