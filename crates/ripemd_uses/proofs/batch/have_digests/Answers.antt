-- Slices are equal by this test exactly if they are equal.
use Rattle.std.proofs.lemmas.Slice.Eq.{slice_eq-Decides, bytes_eq-Decides}
use Rattle.ripemd_uses.proofs.batch.have_digests.Goals as goal

pub returns : goal.returns
returns c =
    rw (← c.digests_of.ensures)
    (slice_eq-Decides bytes_eq-Decides c.digests_of.new.digests c.args.wanted.now c.eq.result c.eq.ensures)
