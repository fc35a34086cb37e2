-- What the errors of a run say of its reader and its writer.
use Rattle.std.specs.Prelude.{◌≡◌, ℕ, List, true, codes, Option, Result, MatchResult}
use Rattle.ripemd_sum.specs.Types.{ReadFault, RunFault, Read, TooLong, Write, Tracked}
use Rattle.ripemd_sum.specs.declared.fault.ReadFault.TheVariants as reading
use Rattle.ripemd_sum.specs.Runs.{GivesAll, FailsToGive, GivesTooMuch, Gets}

-- the line that the program prints for an error
abbrev pub message_of : RunFault → List ℕ
message_of (Read e) = codes "ripemd_sum: read error"
message_of TooLong = codes "ripemd_sum: input too long"
message_of (Write e) = codes "ripemd_sum: write error"

-- what ended the reading: a read that failed, or the limit
abbrev pub ExplainsReading : {R : Type 0} → (R → Option (List ℕ)) → Tracked R → Tracked R → ℕ → ReadFault → Type 0
ExplainsReading remaining old new limit (reading.Read e) = FailsToGive remaining old new limit
ExplainsReading remaining old new limit reading.TooLong = GivesTooMuch remaining old new limit

-- the error of a run whose reading ended with an error
abbrev pub of_reading : ReadFault → RunFault
of_reading (reading.Read e) = Read e
of_reading reading.TooLong = TooLong

-- what ended a run: the reading, and nothing was written; or the writer, after all was read
abbrev pub ExplainsRun : {R W : Type 0} → (R → Option (List ℕ)) → Tracked R → Tracked R → Tracked W → Tracked W
    → ℕ → RunFault → Type 0
ExplainsRun remaining old new writer written limit (Read e) = FailsToGive remaining old new limit × (written ≡ writer)
ExplainsRun remaining old new writer written limit TooLong = GivesTooMuch remaining old new limit × (written ≡ writer)
ExplainsRun remaining old new writer written limit (Write e) =
    ((message : List ℕ) × GivesAll remaining old new limit message) × (written.failed ≡ true)

-- a run with this limit and this outcome: the writer got the line of what the reader gave, or the error says how far
-- they came
abbrev pub IsRun : {R W T : Type 0} → (R → Option (List ℕ)) → (W → Option (List ℕ)) → Tracked R → Tracked R
    → Tracked W → Tracked W → ℕ → (List ℕ → List ℕ) → Result T RunFault → Type 0
IsRun remaining contents old new writer written limit line outcome = MatchResult outcome
    (λ _. (message : List ℕ) × GivesAll remaining old new limit message × Gets contents writer written (line message))
    (ExplainsRun remaining old new writer written limit)
