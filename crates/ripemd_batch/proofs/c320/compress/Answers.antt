use Rattle.std.proofs.Common.{map, ◌∙◌}
use Rattle.ripemd_block.specs.Standard.{ripemd320}
use Rattle.ripemd_block.proofs.Stepping.{no_rounds, next_round, compress_from}
use Rattle.ripemd_batch.specs.Lanes.{lane_of}
use Rattle.ripemd_batch.proofs.c320.compress.Goals as goal

pub returns : goal.returns
returns g c j h block words =
    let state = lane_of 10 j (map g.V.Lanes.words c.args.state) in
    c.double_state.ensures j h ∙ compress_from (next_round (next_round (next_round (next_round (next_round
    (no_rounds ripemd320 state block (c.lines_from-lines.ensures j h))
    (c.round.ensures.left j h) (c.round.ensures.right j h) (c.exchange-lines.ensures j h) words)
    (c.round-2.ensures.left j h) (c.round-2.ensures.right j h) (c.exchange-lines-2.ensures j h) words)
    (c.round-3.ensures.left j h) (c.round-3.ensures.right j h) (c.exchange-lines-3.ensures j h) words)
    (c.round-4.ensures.left j h) (c.round-4.ensures.right j h) (c.exchange-lines-4.ensures j h) words)
    (c.round-5.ensures.left j h) (c.round-5.ensures.right j h) (c.exchange-lines-5.ensures j h) words)
