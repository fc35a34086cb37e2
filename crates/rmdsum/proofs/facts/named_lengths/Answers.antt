use Rattle.ripemd_files.proofs.Library.{refl, digits}
use Rattle.rmdsum.proofs.facts.named_lengths.Goals as goal

pub returns : goal.returns
unfolding digits
returns c = record { r128 = refl; r160 = refl; r256 = refl; r320 = refl }
