-- The records so far are at their places.
use Rattle.std.proofs.Common.{◌≡◌, take}
use Rattle.ripemd_batch.specs.Lanes.{targets}
use Rattle.ripemd_c.specs.Records.{records}
use Rattle.ripemd_c.proofs.each.put_records.Given as goal

abbrev pub invariant-loop-j : goal.invariant-loop-j
invariant-loop-j l = record { so_far : take l.j (targets l.places) ≡ records l.at l.j l.size l.bytes }
