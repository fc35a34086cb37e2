-- No count so far is greater.
use Rattle.std.proofs.Common.{ℕ, ◌<◌, ◌≤◌, ◌-◌, ◌^◌, slice_index}
use Rattle.ripemd_batch.proofs.groups.most.Given as goal

abbrev pub invariant-loop-j : goal.invariant-loop-j
invariant-loop-j l = record {
  so_far : (j : ℕ) → j < l.j → slice_index l.counts j ≤ l.most;
  fits : ((j : ℕ) → j < 8 → slice_index l.counts j < 2 ^ 64 - 1) → l.most < 2 ^ 64 - 1;
}
