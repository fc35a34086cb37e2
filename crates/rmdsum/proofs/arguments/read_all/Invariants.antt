use Rattle.std.proofs.Common.{map, drop, vec_items}
use Rattle.rmdsum.specs.Types.{Any}
use Rattle.rmdsum.specs.Arguments.{reading}
use Rattle.rmdsum.proofs.Readings.{ReadsOn}
use Rattle.rmdsum.proofs.arguments.read_all.Given as goal

abbrev pub invariant-loop-argument : goal.invariant-loop-argument
invariant-loop-argument l =
    ReadsOn (reading l.operands_last Any (map vec_items l.arguments)) l.initial.settings
    (reading l.operands_last l.next (map vec_items (drop l.argument-index l.arguments))) l.settings
