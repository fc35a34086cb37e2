use Rattle.std.proofs.Common.{[], codes, refl, arith}
use Rattle.ripemd_files.proofs.check_facts.worked_folders.Goals as goal

pub returns : goal.returns
returns c error = record {
  one = record { opened = λ name file is. (codes "hi", refl, rw is refl, omega arith); refused = λ name error none. absurd none; sound = λ file error none. none };
  other = λ known. let (bytes, named, left, short) = known.opened [] (codes "hi") refl in cc (named, left);
  failing = λ known. known.sound [] error tt;
  unknown = λ known. known.sound [] error tt;
}
