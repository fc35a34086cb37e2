use Rattle.ripemd_mac.specs.Laws.{keyed_by_blocks, stands_for_nothing}
use Rattle.ripemd_mac.proofs.hmac.Hmac.new.Goals as goal

pub returns-clause-state : goal.returns-clause-state
returns-clause-state g c =
    let keys = c.masked_keys-keys.ensures in
    keyed_by_blocks _ _ _ _ keys.inner keys.outer c.new_with_prefix.ensures.fed c.new_with_prefix-2.ensures.fed

pub returns-clause-text : goal.returns-clause-text
returns-clause-text g c = stands_for_nothing (returns-clause-state g c)
