use Rattle.ripemd.proofs.Library.{◌≡◌, ℕ, ◌+◌, ◌-◌, ◌*◌, ◌<◌, min, length, drop, refl, ap, sym, ◌∙◌, arith, rules, take, length-take-le, length-drop, nil_from_length, div_ceil}
use Rattle.ripemd_mac.specs.Pbkdf2.{pbkdf2}
use Rattle.ripemd_mac.proofs.Deriving.{all_written, block_begins, none_written, one_more}
use Rattle.ripemd_mac.proofs.pbkdf2.pbkdf2_hmac.Goals as goal

pub returns-then-is_empty-clause-ok : goal.returns-then-is_empty-clause-ok
unfolding pbkdf2
returns-then-is_empty-clause-ok g c =
    let none : length c.args.key.now ≡ 0 = search (rules, arith) in
    rw (nil_from_length c.args.key.now none) refl

pub loop-i-init : goal.loop-i-init
loop-i-init g c = none_written _ c.OUTPUT_SIZE-size.result (length c.args.key.now) c.args.key.now refl

pub loop-i-preserved : goal.loop-i-preserved
loop-i-preserved g c =
    let stands = c.new-keyed.ensures.text in
    let size : ℕ = c.OUTPUT_SIZE-size.result in
    let n : ℕ = length c.args.key.now in
    let at : ℕ = size * c.loop-i.i in
    let end : ℕ = c.min-end.result in
    let key = c.loop-i.key in
    let block = c.derived_block-block in
    let positive : 0 < size = search (rules, arith, c.in_ok-allowed, c.if-is_empty.false, c.is_empty.ensures) in
    let inside : at < n = block_begins n size c.loop-i.i positive (search (rules, arith)) in
    let is_end : end ≡ min n (at + size) = cc c.loop-i.invariant.len in
    let room = c.write_front.auto.part in
    let behind = length-drop at key in
    one_more _ size n c.loop-i.i end key c.write_front.new.part (drop (end - at) (drop at key)) _ c.loop-i.invariant inside is_end
    (room ∙ length-take-le (end - at) (drop at key) (omega arith))
    (omega (arith, length-drop (end - at) (drop at key)))
    (c.write_front.ensures ∙ ap (λ k. take k block.result) (sym room)) (block.ensures.block c.args.password.now stands)
    (block.ensures.size c.args.password.now stands ∙ sym c.OUTPUT_SIZE-size.ensures)

pub returns-clause-ok : goal.returns-clause-ok
unfolding pbkdf2
returns-clause-ok g c =
    let size : ℕ = c.OUTPUT_SIZE-size.result in
    let n : ℕ = length c.args.key.now in
    let end : c.loop-i.i ≡ div_ceil n size = search (rules, arith) in
    let positive : 0 < size = search (rules, arith, c.in_ok-allowed, c.if-is_empty.false, c.is_empty.ensures) in
    rw (← c.OUTPUT_SIZE-size.ensures) (all_written _ size n c.loop-i.key positive (rw end at c.loop-i.invariant))
