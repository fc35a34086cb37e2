use Rattle.ripemd_block.proofs.Library.{◌<◌, sym, ◌∙◌, ap, length, arith, rules, IfOk-at_ok}
use Rattle.ripemd_files.proofs.Cutting.{read_whole, read_last}
use Rattle.ripemd_files.proofs.piece.read_piece.Goals as goal

pub returns-in_default-clause-piece : goal.returns-in_default-clause-piece
returns-in_default-clause-piece g c =
    read_whole _ _ _ _ _ _ c.clear.ensures.items c.read_until-outcome.ensures.stops c.read_until-outcome.ensures.none_lost
    (sym c.pop-is_whole.ensures.found ∙ c.if-is_whole.true) c.pop-is_whole.ensures.text

pub returns-in-Ok-clause-piece : goal.returns-in-Ok-clause-piece
returns-in-Ok-clause-piece g c =
    let some : 0 < length c.read_until-outcome.new.buf.items = search rules in
    read_last _ _ _ _ _ _ c.clear.ensures.items c.read_until-outcome.ensures.stops c.read_until-outcome.ensures.none_lost (IfOk-at_ok _ c.in-Ok.is c.read_until-outcome.ensures.bytes) (IfOk-at_ok _ c.in-Ok.is c.read_until-outcome.ensures.rest)
    (λ none. omega (arith, ap length none)) (sym c.pop-is_whole.ensures.found ∙ c.if-is_whole.false) c.pop-is_whole.ensures.text
