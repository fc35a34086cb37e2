use Rattle.std.proofs.Common.{◌≡◌, ◌-◌, ◌^◌, ◌≤◌, ◌<◌, [], length, None}
use Rattle.ripemd_files.specs.Types.{Among}
use Rattle.ripemd_files.specs.Groups.{ReadsLines}
use Rattle.ripemd_files.specs.Splitting.{IsWhole}
use Rattle.ripemd_files.proofs.list.read_lines.Given as goal

abbrev pub invariant-lines : goal.invariant-lines
invariant-lines g l = record {
  reads : ReadsLines l.rules (g.R.ReadList.state l.initial.reader).left (g.R.ReadList.state l.reader).left l.initial.cursor l.cursor l.lines.items None [];
  whole : IsWhole reads.bytes;
  readable : (g.R.ReadList.state l.reader).stage ≡ Among;
  advanced : 0 < length l.lines.items → l.initial.cursor.number < l.cursor.number;
  bounded : 0 < length l.lines.items → l.cursor.number < 2 ^ 64;
  behind : l.initial.cursor.number ≤ l.cursor.number;
}

abbrev pub decreases-lines : goal.decreases-lines
decreases-lines g l = 2 ^ 64 - l.cursor.number
