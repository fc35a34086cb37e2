-- The vectors so far have the words of the last block.
use Rattle.std.proofs.Common.{◌≡◌, ℕ, ◌<◌, ◌++◌, ◌^◌, length, map, slice_index, slice_index_or}
use Rattle.ripemd_batch.specs.Lanes.{lane_of, padding_words}
use Rattle.ripemd_batch.proofs.lane_states.last_words_of.Given as goal

abbrev pub invariant-loop-i : goal.invariant-loop-i
invariant-loop-i g l =
    let words = g.V.Lanes.words in
    record {
      size : length l.words ≡ 16;
      same : (j : ℕ) → j < g.V.Lanes.COUNT → (k : ℕ) → k < l.i → (d : g.row.V.Denot)
          → slice_index (lane_of g.row.N j (map words l.states) ++ padding_words g.row.N) k ≡ slice_index (words (slice_index_or l.words k d)) j;
      fit : (j : ℕ) → j < g.V.Lanes.COUNT → (k : ℕ) → k < l.i → (d : g.row.V.Denot) → slice_index (words (slice_index_or l.words k d)) j < 2 ^ 32;
    }
