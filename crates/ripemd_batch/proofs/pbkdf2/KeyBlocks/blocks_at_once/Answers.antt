use Rattle.ripemd_block.proofs.Library.{◌≡◌, ℕ, ◌+◌, ◌<◌, ◌≤◌, ◌⊎◌, inl, inr, ap, arith, rules, ◌∙◌, cases_lt}
use Rattle.ripemd_block.specs.Standard.{hash}
use Rattle.ripemd_mac.specs.Hmac.{hmac}
use Rattle.ripemd_batch.specs.Pbkdf2.{KeyList, block_at, combined_tags, tag_after}
use Rattle.ripemd_batch.proofs.pbkdf2.KeyBlocks.blocks_at_once.Goals as goal

pub loop-j-preserved : goal.loop-j-preserved
loop-j-preserved g c i h = next (cases_lt i c.loop-j.j)
  where
    lane : (i : ℕ) → i < c.min-live.result → i < g.S.Vector.Lanes.COUNT
    lane i inside = c.requires.lanes i (omega (arith, inside)) (search (rules, arith, inside))

    next : (i < c.loop-j.j) ⊎ (c.loop-j.j ≤ i) →
        combined_tags (tag_after g.D.Digest.step g.D.Digest.output (g.S.LaneStates.words_of i c.select-inner.result)
        (g.S.LaneStates.words_of i c.select-outer.result)) c.args.self.now.rounds
        (g.D.Digest.output (g.S.LaneStates.words_of i c.select-first.result))
        ≡ block_at (hmac (hash g.D.Digest.start g.D.Digest.step g.D.Digest.output)) c.args.self.now (c.args.k + i)
    next (inl before) =
        let eight : i < g.S.Vector.Lanes.COUNT = lane i (omega (arith, before, c.loop-j-test.true)) in
        let other = c.only_lane-lane.ensures.no i eight (omega (arith, before)) in
        rw (
          c.select-inner.ensures.kept i eight other,
          c.select-outer.ensures.kept i eight other,
          c.select-first.ensures.kept i eight other,
        ) (c.loop-j.invariant i before)
    next (inr last) =
        let here : i ≡ c.loop-j.j = omega (arith, h, last) in
        let eight : c.loop-j.j < g.S.Vector.Lanes.COUNT = lane c.loop-j.j c.loop-j-test.true in
        let one = c.only_lane-lane.ensures.yes eight in
        rw (
          here,
          c.select-inner.ensures.taken c.loop-j.j eight one,
          c.select-outer.ensures.taken c.loop-j.j eight one,
          c.select-first.ensures.taken c.loop-j.j eight one,
          c.splat.ensures c.loop-j.j eight,
          c.splat-in-loop-j.ensures c.loop-j.j eight,
          c.splat-in-loop-j-2.ensures c.loop-j.j eight,
        )
        c.chain_at-chain.ensures.block

pub returns : goal.returns
returns g c from is = rw is (λ j h live.
    let same = g.met.D.BatchDigest in
    let f = g.D.Function.ListBlockFunction in
    let words = g.S.LaneStates.words_of in
    let d = g.D.Digest in
    let rounds : c.self.inside.rounds ≡ c.args.self.now.rounds = ap (λ (keys : KeyList). keys.rounds) c.self.view_is in
    let sums : f.output (words j c.combined_tags-sums.result)
    ≡ block_at (hmac (hash d.start d.step d.output)) c.args.self.now (c.args.k + j) =
    c.combined_tags-sums.ensures j (c.requires.lanes j h live)
    ∙ rw (same.same_step, same.same_output, rounds) (c.loop-j.invariant j (search (rules, arith, live))) in
    let size = c.digest_size.ensures in
    rw (← size.size, size.array, ← sums) (c.blocks_of.ensures j h (search (rules, arith, live))))
