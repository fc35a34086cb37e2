-- The vectors so far have the bits in which the words differ.
use Rattle.std.proofs.Common.{◌≡◌, ℕ, ◌<◌, bit_xor, length, slice_index, slice_index_or}
use Rattle.ripemd_batch.proofs.lane_states.xor_each.Given as goal

abbrev pub invariant-loop-i : goal.invariant-loop-i
invariant-loop-i g l =
    record {
      size : length l.differ ≡ g.row.N;
      same : (j : ℕ) → j < g.V.Lanes.COUNT → (k : ℕ) → k < l.i → (d : g.row.V.Denot)
          → slice_index (g.V.Lanes.words (slice_index_or l.differ k d)) j
          ≡ bit_xor (slice_index (g.V.Lanes.words (slice_index_or l.a k d)) j) (slice_index (g.V.Lanes.words (slice_index_or l.b k d)) j);
    }
