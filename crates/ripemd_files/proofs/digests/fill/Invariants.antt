use Rattle.ripemd_block.proofs.Library.{◌≡◌, ◌≤◌, ◌-◌, length, take, Consumes}
use Rattle.ripemd_files.proofs.digests.fill.Given as goal

abbrev pub invariant-loop-count : goal.invariant-loop-count
invariant-loop-count g l = record {
  same : length l.buffer ≡ length l.initial.buffer;
  within : l.count ≤ length l.buffer;
  taken : Consumes ((g.F.Folder.place l.folder).left l.initial.file) ((g.F.Folder.place l.folder).left l.file) (take l.count l.buffer);
  readable : (g.F.Folder.place l.folder).readable l.file;
}

abbrev pub decreases-loop-count : goal.decreases-loop-count
decreases-loop-count g l = length l.buffer - l.count
