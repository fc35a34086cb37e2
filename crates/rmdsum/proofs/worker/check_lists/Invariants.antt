use Rattle.std.proofs.Common.{map, take, vec_items}
use Rattle.rmdsum.specs.Types.{Check}
use Rattle.rmdsum.specs.Runs.{Extends, Handles}
use Rattle.rmdsum.specs.Runs.Item.{Name}
use Rattle.rmdsum.proofs.worker.check_lists.Given as goal

abbrev pub invariant-loop-name : goal.invariant-loop-name
invariant-loop-name g l =
    Extends (g.W.Worker.done l.initial.worker) (g.W.Worker.done l.worker)
    (λ deeds. Handles (Check l.only l.options) (map Name (map vec_items (take l.name-index l.names))) deeds l.success)
