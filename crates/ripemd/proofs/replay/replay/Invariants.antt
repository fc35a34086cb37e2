use Rattle.std.proofs.Common.{take}
use Rattle.ripemd.specs.Replay.{Machine, Runs, empty_machine}
use Rattle.ripemd.specs.Held.{Holds}
use Rattle.ripemd.proofs.replay.replay.Given as goal

-- the commands so far ran, and the vectors hold what the machine has then
abbrev pub invariant-loop-at : goal.invariant-loop-at
invariant-loop-at g l = (m : Machine)
    × Runs g.D.Digest.start g.D.Digest.step g.D.Digest.output g.D.HashMeaning.is_valid
    g.D.SerializableState.state_bytes (take l.at l.commands) empty_machine m
    × Holds g.D.Digest.step g.D.HashMeaning.is_valid g.D.SerializableState.state_bytes g.D.HashMeaning.meaning
    g.D.SerializableState.saved_bytes g.D.OutputSizeUser.bytes_of l.hashers.items l.arrays.items l.digests.items m
