-- The hasher is one of what the reader gave so far; so many bytes and those left of the limit
-- are the limit. Each turn that goes on takes at least one.
use Rattle.std.proofs.Common.{◌≡◌, ℕ, ◌+◌, List, length}
use Rattle.std.specs.Io.KnownBytes.{Consumes}
use Rattle.ripemd.specs.Standard.{start_words, compress, ripemd160}
use Rattle.ripemd.specs.Messages.{IsHashing}
use Rattle.ripemd_uses.proofs.calling.digest_of_reader.Given as goal

abbrev pub invariant-reads : goal.invariant-reads
invariant-reads g l = record {
  bytes : List ℕ;
  given : Consumes (g.R.Read.remaining l.fn.reader) (g.R.Read.remaining l.reader) bytes;
  hashing : IsHashing start_words (compress ripemd160) bytes l.hasher;
  counted : length bytes + l.left ≡ l.limit;
}

abbrev pub decreases-reads : goal.decreases-reads
decreases-reads g l = l.left
