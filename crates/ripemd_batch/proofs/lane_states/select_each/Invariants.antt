-- The vectors so far have the words that are wanted.
use Rattle.std.proofs.Common.{◌≡◌, ℕ, ◌<◌, length, slice_index, slice_index_or}
use Rattle.ripemd_batch.proofs.lane_states.select_each.Given as goal

abbrev pub invariant-loop-i : goal.invariant-loop-i
invariant-loop-i g l =
    let words = g.V.Lanes.words in
    record {
      size : length l.states ≡ g.row.N;
      taken : (j : ℕ) → j < g.V.Lanes.COUNT → slice_index (words l.live) j ≡ 0xffff_ffff → (k : ℕ) → k < l.i → (d : g.row.V.Denot)
          → slice_index (words (slice_index_or l.states k d)) j ≡ slice_index (words (slice_index_or l.new k d)) j;
      kept : (j : ℕ) → j < g.V.Lanes.COUNT → slice_index (words l.live) j ≡ 0 → (k : ℕ) → k < l.i → (d : g.row.V.Denot)
          → slice_index (words (slice_index_or l.states k d)) j ≡ slice_index (words (slice_index_or l.old k d)) j;
    }
