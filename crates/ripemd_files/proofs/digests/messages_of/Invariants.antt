use Rattle.std.proofs.Common.{◌≡◌, take, map}
use Rattle.ripemd_batch.specs.Lanes.{targets}
use Rattle.ripemd_files.specs.Files.{message_in}
use Rattle.ripemd_files.proofs.digests.messages_of.Given as goal

abbrev pub invariant-loop-content : goal.invariant-loop-content
invariant-loop-content l = targets l.messages.items ≡ map message_in (take l.content-index l.contents)
