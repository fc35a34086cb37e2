use Rattle.std.proofs.Common.{◌≡◌, ◌-◌, ◌^◌, ◌<◌}
use Rattle.ripemd_files.specs.Types.{Among}
use Rattle.ripemd_files.specs.Groups.{ChecksSoFar}
use Rattle.ripemd_files.proofs.checking.check_groups.Given as goal

abbrev pub invariant-groups : goal.invariant-groups
invariant-groups g l = record {
  so_far : ChecksSoFar (g.F.Folder.place l.folder) l.options l.rules l.initial.cursor l.cursor (g.R.ReadList.state l.initial.reader).left
      (g.R.ReadList.state l.reader).left (g.L.Log.told l.initial.log) (g.L.Log.told l.log) l.tally;
  readable : (g.R.ReadList.state l.reader).stage ≡ Among;
  bounded : l.cursor.number < 2 ^ 64;
}

abbrev pub decreases-groups : goal.decreases-groups
decreases-groups g l = 2 ^ 64 - l.cursor.number
