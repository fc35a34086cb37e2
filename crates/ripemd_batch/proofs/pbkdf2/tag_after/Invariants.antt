-- What is hashed so far: nothing, the inner half, both.
use Rattle.std.proofs.Common.{◌≡◌, ℕ, ◌<◌}
use Rattle.ripemd_batch.specs.Pbkdf2.{tag_after}
use Rattle.ripemd_batch.specs.Lanes.{hash_after}
use Rattle.ripemd_batch.proofs.pbkdf2.tag_after.Given as goal

abbrev pub invariant-loop-half : goal.invariant-loop-half
invariant-loop-half g l =
    let f = g.S.Function.ListBlockFunction in
    let words = g.S.LaneStates.words_of in
    record {
      none : (j : ℕ) → j < g.S.Vector.Lanes.COUNT → l.half ≡ 0 → f.output (words j l.digest) ≡ f.output (words j l.fn.text);
      inner : (j : ℕ) → j < g.S.Vector.Lanes.COUNT → l.half ≡ 1
          → f.output (words j l.digest) ≡ hash_after 64 (words j l.inner) f.step f.output (f.output (words j l.fn.text));
      both : (j : ℕ) → j < g.S.Vector.Lanes.COUNT → l.half ≡ 2
          → f.output (words j l.digest) ≡ tag_after f.step f.output (words j l.inner) (words j l.outer) (f.output (words j l.fn.text));
    }
