-- The tag is U_j, and the block is F of j rounds, filled with zeros.
use Rattle.std.proofs.Common.{◌≡◌, ℕ, List, [], length}
use Rattle.ripemd.specs.Standard.{hash}
use Rattle.ripemd_mac.specs.Hmac.{StandsFor, filled, hmac}
use Rattle.ripemd_mac.specs.Pbkdf2.{U, F}
use Rattle.ripemd_mac.proofs.pbkdf2.derived_block.Given as goal

abbrev pub invariant-loop-j : goal.invariant-loop-j
invariant-loop-j g l =
    let start = g.D.Digest.start in
    let step = g.D.Digest.step in
    let output = g.D.Digest.output in
    let PRF : List ℕ → List ℕ → List ℕ = hmac (hash start step output) in
    (password : List ℕ) → StandsFor start step output password [] l.keyed → record {
      tag : g.D.OutputSizeUser.bytes_of l.tag ≡ U PRF password l.salt l.number l.j;
      block : l.block ≡ filled (F PRF password l.salt l.j l.number);
      size : length (F PRF password l.salt l.j l.number) ≡ g.D.OutputSizeUser.OUTPUT_SIZE;
    }
