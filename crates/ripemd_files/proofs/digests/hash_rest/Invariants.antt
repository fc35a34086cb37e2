use Rattle.ripemd_block.proofs.Library.{◌≡◌, ◌-◌, ◌++◌, ℕ, List, length, Consumes}
use Rattle.ripemd.specs.Messages.{IsHashing}
use Rattle.ripemd_files.proofs.digests.hash_rest.Given as goal

abbrev pub invariant-loop-length : goal.invariant-loop-length
invariant-loop-length g l = record {
  rest : List ℕ;
  taken : Consumes ((g.F.Folder.place l.folder).left l.initial.file) ((g.F.Folder.place l.folder).left l.file) rest;
  hashing : IsHashing g.D.Digest.start g.D.Digest.step (l.initial.buffer ++ rest) (g.D.HashMeaning.meaning l.hasher);
  counted : length (l.initial.buffer ++ rest) ≡ l.length;
  readable : (g.F.Folder.place l.folder).readable l.file;
}

abbrev pub decreases-loop-length : goal.decreases-loop-length
decreases-loop-length g l = 2305843009213693952 - l.length
