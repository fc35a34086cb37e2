use Rattle.ripemd_block.proofs.Library.{◌≡◌, refl, sym, ◌∙◌, ap, add-one, arith, ℕ, suc, List, Option, Some, None, slice_get, slice_get_read, slice_get_past}
use Rattle.ripemd_block.specs.Standard.{left_line, right_line, exchange, round, lines_after}
use Rattle.ripemd_block.specs.Code.{both_lines, message_words}
use Rattle.ripemd_block.proofs.Stepping.{AfterRounds, next_round}
use Rattle.ripemd_block.proofs.two_lanes.lines_after.Goals as goal
use Rattle.ripemd_block.proofs.two_lanes.lines_after.Goals.{in-Some, in_default}

pub loop-r-preserved : goal.loop-r-preserved
loop-r-preserved g c v rounds exchanges =
    let lane = g.R.TwoLaneRegisters.lane in
    let r = c.loop-r.r in
    let left : (b : List ℕ) → c.message_words.result ≡ message_words b
    → lane c.round-next.result 0 ≡ round left_line b r (lane c.loop-r.registers 0) =
    λ b words. c.round-next.ensures b words 0 (omega arith) in
    let right : (b : List ℕ) → c.message_words.result ≡ message_words b
    → lane c.round-next.result 1 ≡ round (right_line v.rounds) b r (lane c.loop-r.registers 1) =
    λ b words. c.round-next.ensures b words 1 (omega arith)
    ∙ ap (λ n. round (right_line n) b r (lane c.loop-r.registers 1)) (sym rounds) in
    let so_far : AfterRounds v (both_lines (lane c.args.start 0) (lane c.args.start 1)) c.args.block.now r
    (both_lines (lane c.loop-r.registers 0) (lane c.loop-r.registers 1)) =
    record { same = c.loop-r.invariant v rounds exchanges } in
    let after : (e : Option ℕ) → slice_get v.exchanges r ≡ e
    → both_lines (lane c.match-get.registers 0) (lane c.match-get.registers 1)
    ≡ exchange e (both_lines (lane c.round-next.result 0) (lane c.round-next.result 1))
    → both_lines (lane c.match-get.registers 0) (lane c.match-get.registers 1)
    ≡ lines_after v c.args.block.now (suc r) (both_lines (lane c.args.start 0) (lane c.args.start 1)) =
    λ e found made. (next_round so_far left right (rw found made) c.message_words.ensures).same in
    rw add-one (elim c.match-get.branch [
      | in-Some w ↦
          let lookup = w.in-Some.ensures.lookup in
          after (Some w.in-Some.i.now)
          (rw exchanges (slice_get_read c.args.exchanges.now _ r w.in-Some.i.now refl lookup.3.0 lookup.1))
          (rw w.registers-is w.exchange-next.ensures)
      | in_default w ↦
          let lookup = w.in_default.ensures.lookup in
          after None (rw exchanges (slice_get_past c.args.exchanges.now r lookup.3)) (rw w.registers-is refl)
    ])
