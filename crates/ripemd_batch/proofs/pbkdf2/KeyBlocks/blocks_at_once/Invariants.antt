-- The lanes so far have the states of their blocks.
use Rattle.std.proofs.Common.{◌≡◌, ℕ, ◌<◌, ◌+◌}
use Rattle.ripemd_block.specs.Standard.{hash}
use Rattle.ripemd_mac.specs.Hmac.{hmac}
use Rattle.ripemd_batch.specs.Pbkdf2.{block_at, combined_tags, tag_after}
use Rattle.ripemd_batch.proofs.pbkdf2.KeyBlocks.blocks_at_once.Given as goal

abbrev pub invariant-loop-j : goal.invariant-loop-j
invariant-loop-j g l =
    let d = g.D.Digest in
    let words = g.S.LaneStates.words_of in
    (i : ℕ) → i < l.j → combined_tags (tag_after d.step d.output (words i l.inner) (words i l.outer)) l.self.rounds
    (d.output (words i l.first)) ≡ block_at (hmac (hash d.start d.step d.output)) l.self (l.k + i)
