use Rattle.ripemd_files.proofs.Written.{no_end, no_zero, starts_line}
use Rattle.ripemd_files.proofs.facts.line_ends.Goals as goal

pub returns : goal.returns
returns c = record { newline = no_end; zero = no_zero; first = starts_line }
