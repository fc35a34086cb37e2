-- The reader gave a message within the limit, and it was taken in. Each turn that goes on takes a byte
-- more.
use Rattle.std.proofs.Common.{◌≡◌, ◌-◌, ◌≤◌, false, ℕ, List, length}
use Rattle.ripemd_sum.specs.Runs.{Gives}
use Rattle.ripemd_sum.proofs.engine.read_to_end.Given as goal

abbrev pub invariant-reads : goal.invariant-reads
invariant-reads g l = record {
  message : List ℕ;
  gives : Gives g.R.Read.remaining l.fn.reader l.reader message;
  works : l.reader.failed ≡ false;
  within : length message ≤ l.limit;
  held : (o : g.S.Incremental.Origin) → l.fn.state ≡ g.S.Incremental.new_state o
      → l.state ≡ g.S.Incremental.fed (g.S.Incremental.new_state o) message;
}

abbrev pub decreases-reads : goal.decreases-reads
decreases-reads g l = l.limit - l.reader.taken
