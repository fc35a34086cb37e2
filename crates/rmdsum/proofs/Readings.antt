-- What arguments say, one after another.
use Rattle.ripemd_files.proofs.Library.{List, [], Result, Ok, IsErr, append_assoc, arith, IfOk, MatchResult, reverse, append-nil, reverse-append}
use Rattle.rmdsum.specs.Types.{Next, Stop, Misuse, Request, Settings}
use Rattle.rmdsum.specs.Options.{Said}
use Rattle.rmdsum.specs.Asked.{Asks, Holds, IsRefused}
use Rattle.rmdsum.specs.Arguments.{Reading, then_reads, Answers, Reads}
use Rattle.rmdsum.specs.Arguments.Reading.{Goes, Stops}

-- from here the rest is read as the whole is from the start
abbrev pub ReadsOn : Reading → Settings → Reading → Settings → Type 0
ReadsOn whole start rest now = (after : Settings) (result : Result Next Stop) → Reads rest now after result → Reads whole start after result

-- what is read after what was read
pub then_read : (given : Reading) (rest : Next → Reading) (before now : Settings) (next : Next)
    → Reads given before now (Ok next) → ReadsOn (then_reads given rest) before (rest next) now
then_read given rest before now next reads after result more = grind (arith, reverse-append, append_assoc)

-- or nothing is read after it
pub then_stops : (given : Reading) (rest : Next → Reading) (before after : Settings) (result : Result Next Stop)
    → IsErr result → Reads given before after result → Reads (then_reads given rest) before after result
then_stops given rest before after result fails reads = grind arith

-- what was read is asked for, or refused
pub asked : {E : Type 0} (given : Reading) (before after : Settings) (next : Next) (result : Result (Result Request Misuse) E)
    → Reads given before after (Ok next) → Holds [] before
    → ((words : List Said) → Holds words after → IfOk result (λ answer. MatchResult answer (Asks words) (IsRefused words)))
    → IfOk result (Answers given)
asked (Goes words last) before after next result reads holds asks = grind (arith, asks (reverse words) (rw append-nil at (reads.1 [] holds)))
asked (Stops why) before after next result reads holds asks = grind arith
