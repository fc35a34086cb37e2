use Rattle.ripemd.proofs.Library.{rules, ◌≡◌, true, refl, All-replicate}
use Rattle.hex.specs.Hex.{is_hex_digit}
use Rattle.ripemd_sum.proofs.facts.worked_limits.Goals as goal

pub returns-clause-keys : goal.returns-clause-keys
returns-clause-keys c = search (rules, All-replicate (λ digit. is_hex_digit digit ≡ true) 128 0x30 refl)
