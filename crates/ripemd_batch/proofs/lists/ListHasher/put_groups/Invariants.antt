-- What is made of the messages so far is in its place.
use Rattle.std.proofs.Common.{◌*◌}
use Rattle.ripemd_batch.specs.Lanes.{made_by}
use Rattle.ripemd_batch.proofs.Placing.{Put}
use Rattle.ripemd_batch.proofs.lists.ListHasher.put_groups.Given as goal

abbrev pub invariant-loop-g : goal.invariant-loop-g
invariant-loop-g g l =
    let f = g.D.Function.ListBlockFunction in
    Put (made_by f.step f.output l.self) l.messages (g.P.Places.list l.fn.places) l.at (8 * l.g) (g.P.Places.list l.places)
