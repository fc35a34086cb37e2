use Rattle.ripemd.proofs.Library.{rules, ℕ, ◌<◌, ◌≤◌, [], Bool, true, false, replicate, refl, arith, length-replicate}
use Rattle.ripemd_sum.specs.Types.{TooLong}
use Rattle.ripemd_sum.specs.Runs.{Gives, FailsToGive}
use Rattle.ripemd_sum.specs.Worked.{Stops, tracked, unknown}
use Rattle.ripemd_sum.proofs.facts.worked_runs.Goals as goal

-- as many zeros, whether a call failed or not
zeros : (n : ℕ) (failed : Bool) → Gives unknown (tracked [] false 0) (tracked [] failed n) (replicate n 0)
zeros n failed = record { given = tt; counted = rw length-replicate (omega arith) }

fails : FailsToGive unknown (tracked [] false 0) (tracked [] true 10) 10
fails = record { bytes = replicate 10 0; gives = zeros 10 true; within = omega arith; fails = refl }

exceeds : (n : ℕ) → 10 < n → n ≤ 4106 → Stops (tracked [] false n) (tracked [] false 0) TooLong
exceeds n over near = (
  record { bytes = replicate n 0; gives = zeros n false; over = rw length-replicate over; near = rw length-replicate near; works = refl },
  refl,
)

pub returns-clause-errors : goal.returns-clause-errors
returns-clause-errors c error = search (rules, fails, exceeds, zeros)
