-- Reading computes what each line says.
use Rattle.hex.specs.Hex.{decode_pairs}
use Rattle.ripemd_files.specs.Reading.{skip_blanks, split_blank, split_close, strip_label, untagged_at, tagged_at, found_at, digest_at, unescaped, name_at, said_by}
use Rattle.ripemd_files.proofs.Sayings.{IsLine-said, no_line}
use Rattle.ripemd_files.proofs.facts.read_lines.Goals as goal

pub returns : goal.returns
unfolding skip_blanks split_blank split_close strip_label untagged_at tagged_at found_at digest_at unescaped name_at said_by decode_pairs
returns c = search (IsLine-said, no_line)
