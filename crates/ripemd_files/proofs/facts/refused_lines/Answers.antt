-- Reading computes that these say nothing.
use Rattle.hex.specs.Hex.{decode_pairs}
use Rattle.ripemd_files.specs.Reading.{skip_blanks, split_blank, split_close, strip_label, untagged_at, tagged_at, found_at, digest_at, unescaped, name_at, said_by}
use Rattle.ripemd_files.proofs.Sayings.{no_line}
use Rattle.ripemd_files.proofs.facts.refused_lines.Goals as goal

pub returns : goal.returns
unfolding skip_blanks split_blank split_close strip_label untagged_at tagged_at found_at digest_at unescaped name_at said_by decode_pairs
returns c = search no_line
