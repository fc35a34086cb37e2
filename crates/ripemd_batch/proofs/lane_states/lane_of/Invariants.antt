-- The words so far are those of the message.
use Rattle.std.proofs.Common.{◌≡◌, ℕ, ◌<◌, length, slice_index, slice_index_or}
use Rattle.ripemd_batch.proofs.lane_states.lane_of.Given as goal

abbrev pub invariant-loop-i : goal.invariant-loop-i
invariant-loop-i g l = record {
  size : length l.words ≡ g.row.N;
  same : (k : ℕ) → k < l.i → (d : g.row.V.Denot)
      → slice_index l.words k ≡ slice_index (g.V.Lanes.words (slice_index_or l.states k d)) l.j;
}
