-- The vectors so far have the words.
use Rattle.std.proofs.Common.{◌≡◌, ℕ, ◌<◌, length, slice_index, slice_index_or}
use Rattle.ripemd_batch.proofs.lane_states.splat_each.Given as goal

abbrev pub invariant-loop-i : goal.invariant-loop-i
invariant-loop-i g l = record {
  size : length l.states ≡ g.row.N;
  same : (j : ℕ) → j < g.V.Lanes.COUNT → (k : ℕ) → k < l.i → (d : g.row.V.Denot)
      → slice_index l.words k ≡ slice_index (g.V.Lanes.words (slice_index_or l.states k d)) j;
}
