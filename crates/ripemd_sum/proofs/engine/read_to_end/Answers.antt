use Rattle.ripemd.proofs.Library.{◌≡◌, ℕ, ◌+◌, ◌≤◌, Option, List, ◌++◌, length, take, ap, ◌∙◌, length-append, arith, length-take-le, Consumes, Consumes-trans}
use Rattle.ripemd_sum.specs.Types.{Tracked}
use Rattle.ripemd_sum.specs.Runs.{Gives}
use Rattle.ripemd_sum.proofs.engine.read_to_end.Goals as goal

-- the bytes so far, and those of a read of n bytes into a buffer
Gives_more : {R : Type 0} {remaining : R → Option (List ℕ)} {old now next : Tracked R} {message : List ℕ} (n : ℕ) (buffer : List ℕ)
    → Gives remaining old now message → Consumes (remaining now.inner) (remaining next.inner) (take n buffer)
    → n ≤ length buffer → next.taken ≡ now.taken + n → Gives remaining old next (message ++ take n buffer)
Gives_more {message = message} n buffer before given most counted = record {
  given = Consumes-trans _ _ _ message (take n buffer) before.given given;
  counted = omega (arith, length-append message (take n buffer), length-take-le n buffer most);
}

pub reads-preserved : goal.reads-preserved
reads-preserved g c =
    let before = c.reads.invariant in
    let ok = c.in-Ok.ensures in
    let piece = take c.in-Ok.count c.read.new.buffer in
    let gives = Gives_more c.in-Ok.count c.read.new.buffer before.gives ok.bytes.0 ok.bound.0 (omega (arith, ok.taken)) in
    record {
      message = before.message ++ piece;
      gives = gives;
      works = ok.failed ∙ before.works;
      within = omega (arith, gives.counted, c.taken.ensures);
      held = λ o start.
          c.update.ensures ∙ ap (λ (s : _). g.S.Incremental.fed s piece) (before.held o start)
          ∙ g.met.S.Incremental.fed_twice (g.S.Incremental.new_state o) before.message piece;
    }

pub returns-then-taken-limit-clause-fault : goal.returns-then-taken-limit-clause-fault
returns-then-taken-limit-clause-fault g c =
    let before = c.reads.invariant in
    let ok = c.in-Ok.ensures in
    let gives = Gives_more c.in-Ok.count c.read.new.buffer before.gives ok.bytes.0 ok.bound.0
    (omega (arith, ok.taken, ok.bound.0, before.gives.counted, before.within, c.requires.fresh)) in
    record {
      bytes = before.message ++ take c.in-Ok.count c.read.new.buffer;
      gives = gives;
      over = omega (arith, gives.counted, c.taken.ensures, c.requires.fresh);
      near = omega (arith, gives.counted, before.gives.counted, before.within, ok.taken, ok.bound.0);
      works = ok.failed ∙ before.works;
    }
