-- The last tags, and the exclusive or of all so far.
use Rattle.ripemd_block.proofs.Library.{◌≡◌, ℕ, ◌<◌, ◌-◌, iterate}
use Rattle.ripemd_batch.specs.Pbkdf2.{combined_tags, tag_after}
use Rattle.ripemd_batch.proofs.pbkdf2.combined_tags.Given as goal

abbrev pub invariant-loop-k : goal.invariant-loop-k
invariant-loop-k g l =
    let f = g.S.Function.ListBlockFunction in
    let words = g.S.LaneStates.words_of in
    record {
      tag : (j : ℕ) → j < g.S.Vector.Lanes.COUNT → f.output (words j l.tag)
          ≡ iterate (tag_after f.step f.output (words j l.inner) (words j l.outer)) (l.k - 1) (f.output (words j l.fn.first));
      sum : (j : ℕ) → j < g.S.Vector.Lanes.COUNT → f.output (words j l.sum)
          ≡ combined_tags (tag_after f.step f.output (words j l.inner) (words j l.outer)) l.k (f.output (words j l.fn.first));
    }
