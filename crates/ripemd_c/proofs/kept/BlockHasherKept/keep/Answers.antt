use Rattle.ripemd_block.proofs.Library.{◌≡◌, ◌+◌, ◌-◌, ◌∙◌, [], ◌++◌, ap, sym, length, drop, arith, append-nil, drop_all, length-drop}
use Rattle.ripemd.specs.States.{core_and_tail}
use Rattle.ripemd_c.proofs.KeptBytes.{both_kept}
use Rattle.ripemd_c.proofs.kept.BlockHasherKept.keep.Goals as goal

pub returns-clause-kept : goal.returns-clause-kept
returns-clause-kept g c =
    let output = g.F.ListBlockFunction.output in
    let core = c.parts.result.0.now in
    let tail = c.parts.result.1.now in
    let after = c.copy_from_slice.ensures.after in
    let behind = c.split_at_mut-front in
    let back = c.split_at_mut-back in
    let none : back.result.1.now ≡ [] = back.ensures.back ∙ drop_all 64 behind.result.1.now
    (omega (arith, behind.ensures.back_len, c.requires, g.met.F.ResumableFunction.saved_hasher_size, c.LEN.ensures)) in
    let left : length (drop (1 + length tail) back.result.0.now) ≡ 63 - length tail =
    omega (arith, length-drop (1 + length tail) back.result.0.now, back.ensures.front_len) in
    ap (core_and_tail output) (sym c.parts.ensures.same)
    ∙ both_kept output core tail g.F.SavedCore.ByteArray.LEN c.copy_from_slice.new.self (c.put_tail.new.place ++ back.result.1.now) _
    (ap length after ∙ c.as_bytes.ensures.size) (sym (after ∙ c.as_bytes.ensures.bytes ∙ c.serialize.ensures.bytes))
    (rw (none, append-nil c.put_tail.new.place) c.put_tail.ensures) left
