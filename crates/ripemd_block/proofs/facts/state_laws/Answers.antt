use Rattle.ripemd_block.specs.Standard.{word_bytes, compress}
use Rattle.ripemd_block.specs.Laws.Pieces.{fed_nothing, fed_twice, finish_fed}
use Rattle.ripemd_block.proofs.facts.state_laws.Goals as goal

pub returns-clause-nothing : goal.returns-clause-nothing
returns-clause-nothing c = fed_nothing

pub returns-clause-joined : goal.returns-clause-joined
returns-clause-joined c = fed_twice

pub returns-clause-finished : goal.returns-clause-finished
returns-clause-finished c = finish_fed

pub returns-clause-digest : goal.returns-clause-digest
returns-clause-digest c = λ v message. finish_fed v.start (compress v) word_bytes message
