use Rattle.std.proofs.Common.{◌≡◌, ◌∙◌, length, get_or, ap, arith, take-append-drop}
use Rattle.ripemd_block.specs.States.{with_tail, output_and_count, tail_bytes}
use Rattle.ripemd_block.specs.Laws.Saved.{core_and_tail-split}
use Rattle.ripemd.proofs.Saved.{core_front, own_core, tail_back, tail_of_zeros, whole, zeros_behind}
use Rattle.ripemd.proofs.state.BlockHasherSerializableState.load_slice.Goals as goal

-- another number of bytes
pub returns-then-bytes-LEN-clause-err : goal.returns-then-bytes-LEN-clause-err
returns-then-bytes-LEN-clause-err g c h valid same =
    let r = g.met.F.ResumableFunction in
    omega (arith, whole r.injective_output h valid _ r.saved_core_size _ same, r.saved_hasher_size)

-- the first of them are its core's
pub returns-in_default-clause-err : goal.returns-in_default-clause-err
returns-in_default-clause-err g c h valid same =
    let r = g.met.F.ResumableFunction in
    c.in_default.ensures.err _ (own_core r.injective_output h valid _ r.saved_core_size _ same)
    (core_front r.injective_output h valid _ r.saved_core_size _ same _ (rw c.LEN-2.ensures at c.split_at.ensures.front))

-- and the others its tail's: its length, the tail
pub returns-in_default-try_front-clause-err : goal.returns-in_default-try_front-clause-err
returns-in_default-try_front-clause-err g c h valid same =
    let r = g.met.F.ResumableFunction in
    let back_is = rw c.LEN-2.ensures at c.split_at.ensures.back in
    let is = tail_back r.injective_output h valid _ r.saved_core_size _ same _ back_is in
    let len : length h.tail ≡ get_or c.split_at.result.1.now 0 0 = ap (λ bs. get_or bs 0 0) is in
    c.in_default-try_front.ensures.value (omega (arith, r.saved_hasher_size))

-- and zeros
pub returns-else-are_zeros-clause-err : goal.returns-else-are_zeros-clause-err
returns-else-are_zeros-clause-err g c h valid same =
    let r = g.met.F.ResumableFunction in
    let back_is = rw c.LEN-2.ensures at c.split_at.ensures.back in
    let is = tail_back r.injective_output h valid _ r.saved_core_size _ same _ back_is in
    cc (c.are_zeros.ensures.1 (zeros_behind h.tail _ is), c.if-are_zeros.false)

pub returns-then-are_zeros-clause-ok : goal.returns-then-are_zeros-clause-ok
unfolding output_and_count
returns-then-are_zeros-clause-ok g c =
    let h = with_tail c.in-Ok.core c.in-Some.buffer in
    let back = c.split_at.result.1.now in
    let size : length back ≡ 64 = omega (arith, g.met.F.ResumableFunction.saved_hasher_size) in
    let zeros = c.are_zeros.ensures.0 c.if-are_zeros.true in
    let tail : tail_bytes c.in-Some.buffer ≡ back =
    rw c.in-Some.ensures.value.1 (tail_of_zeros back size c.in-Some.ensures.value.0.0 zeros) in
    core_and_tail-split g.F.ListBlockFunction.output h
    ∙ rw (c.in-Ok.ensures.ok, tail, c.split_at.ensures.front, c.split_at.ensures.back)
    (take-append-drop c.LEN-2.result c.args.bytes.now)
