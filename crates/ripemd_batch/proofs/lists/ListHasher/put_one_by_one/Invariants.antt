-- What is made of the messages so far is in its place.
use Rattle.ripemd_batch.specs.Lanes.{made_by}
use Rattle.ripemd_batch.proofs.Placing.{Put}
use Rattle.ripemd_batch.proofs.lists.ListHasher.put_one_by_one.Given as goal

abbrev pub invariant-loop-j : goal.invariant-loop-j
invariant-loop-j g l =
    let f = g.D.Function.ListBlockFunction in
    Put (made_by f.step f.output l.self) l.messages (g.P.Places.list l.fn.places) l.at l.j (g.P.Places.list l.places)
