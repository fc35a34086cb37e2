use Rattle.std.proofs.Common.{◌≡◌, ◌+◌, ◌<◌, ◌++◌, length, length-append, drop, arith, refl, sym, ◌∙◌, length-take-le}
use Rattle.ripemd_block.specs.Laws.Blocks.{blocks_of_short, left_over_of_short}
use Rattle.ripemd_block.proofs.Absorbing.{take_put}
use Rattle.ripemd_block.proofs.buffer.Buffer.absorb.Goals as goal
use Rattle.ripemd_block.proofs.buffer.Buffer.absorb.Goals.{then-bytes-len, else-bytes-len}

pub returns-clause-core : goal.returns-clause-core
returns-clause-core g c =
    let tail = c.args.self.now in
    let bytes = c.args.bytes.now in
    let own = c.self.inside in
    let fits : own.len < 64 = c.self.invariant in
    let size : length tail ≡ own.len = rw (← c.self.view_is) (length-take-le own.len own.bytes (omega arith)) in
    elim c.if-bytes-len.branch [
      | then-bytes-len w ↦
          rw (w.core-is, w.update_blocks.ensures.after, blocks_of_short (tail ++ bytes) (omega (arith, length-append tail bytes, w.if-bytes-len.true))) refl
      | else-bytes-len w ↦ rw (w.core-is, w.take_blocks-rest.ensures.core, c.self.view_is) refl
    ]

pub returns-clause-buffer : goal.returns-clause-buffer
returns-clause-buffer g c =
    let tail = c.args.self.now in
    let bytes = c.args.bytes.now in
    let own = c.self.inside in
    let fits : own.len < 64 = c.self.invariant in
    let size : length tail ≡ own.len = rw (← c.self.view_is) (length-take-le own.len own.bytes (omega arith)) in
    rw c.put_behind.ensures elim c.if-bytes-len.branch [
      | then-bytes-len w ↦
          let whole = left_over_of_short (tail ++ bytes) (omega (arith, length-append tail bytes, w.if-bytes-len.true)) in
          rw (w.len-is, w.rest-is)
          (take_put own.len own.bytes bytes (drop (own.len + length bytes) own.bytes) (omega arith) ∙ rw c.self.view_is (sym whole))
      | else-bytes-len w ↦
          let rest = w.take_blocks-rest.result.now in
          rw (w.len-is, w.rest-is)
          (take_put 0 own.bytes rest (drop (0 + length rest) own.bytes) (omega arith) ∙ rw (w.take_blocks-rest.ensures.rest, c.self.view_is) refl)
    ]
