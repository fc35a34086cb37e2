-- The states are those after so many turns.
use Rattle.std.proofs.Common.{◌≡◌, ℕ, ◌<◌}
use Rattle.ripemd_batch.specs.Lanes.{list_at}
use Rattle.ripemd_batch.proofs.Turns.{Turned, turns_of}
use Rattle.ripemd_batch.proofs.groups.walk_messages.Given as goal

abbrev pub invariant-loop-i : goal.invariant-loop-i
invariant-loop-i g l =
    let f = g.S.Function.ListBlockFunction in
    record {
      turns : l.turns ≡ turns_of l.fn.outer l.most;
      turned : (j : ℕ) → j < g.S.Vector.Lanes.COUNT
          → Turned f.step f.output f.list (f.list l.fn.first) (list_at l.blocks j) l.most l.fn.outer l.i
          (g.S.LaneStates.words_of j l.states);
    }
