use Rattle.ripemd_block.proofs.Library.{◌<◌, take, length, AllZip}
use Rattle.ripemd_block.specs.Standard.{hash}
use Rattle.ripemd_batch.specs.Lanes.{targets}
use Rattle.ripemd_files.specs.Files.{IsContent}
use Rattle.ripemd_files.proofs.digests.read_files.Given as goal

abbrev pub invariant-loop-name : goal.invariant-loop-name
invariant-loop-name g l = record {
  each : AllZip (IsContent (g.F.Folder.place l.folder) (hash g.D.Digest.start g.D.Digest.step g.D.Digest.output))
      (take l.name-index (targets l.names)) l.contents.items;
  room : 0 < length l.buffer;
}
