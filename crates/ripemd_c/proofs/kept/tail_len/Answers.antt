use Rattle.std.proofs.Common.{◌≡◌, ◌+◌, ◌-◌, ◌∙◌, refl, length, take, drop, get_or, arith, length-drop, length-take-le}
use Rattle.ripemd.specs.States.{with_tail, output_and_count}
use Rattle.ripemd_block.specs.Laws.Saved.{core_and_tail-split}
use Rattle.ripemd_c.proofs.KeptBytes.{cleared_front, kept_core, with_valid}
use Rattle.ripemd_c.proofs.kept.tail_len.Goals as goal

-- the first bytes of a hasher are its core's
pub returns-in_default-clause-none : goal.returns-in_default-clause-none
returns-in_default-clause-none g c h valid same =
    let r = g.met.F.ResumableFunction in
    kept_core r.injective_output r.saved_core_size valid c.args.kept.now (c.requires ∙ r.saved_hasher_size) same c.LEN.ensures
    c.split_at.ensures.front c.in_default.ensures.err

pub returns-clause-some : goal.returns-clause-some
unfolding output_and_count
returns-clause-some g c =
    let r = g.met.F.ResumableFunction in
    let back = c.split_at.result.1.now in
    let len = get_or back 0 0 in
    let tail = take len (drop 1 back) in
    let size : length back ≡ 64 = omega (arith, c.split_at.ensures.back_len, c.requires, c.LEN.ensures, r.saved_hasher_size) in
    let held : length tail ≡ len = length-take-le len (drop 1 back) (omega (arith, length-drop 1 back, size, c.if-len-ge64.false)) in
    let left : 1 + len - 1 ≡ len = omega arith in
    let front_is = rw c.LEN.ensures at c.split_at.ensures.front in
    let back_is = rw c.LEN.ensures at c.split_at.ensures.back in
    let is = cleared_front back size (omega (arith, c.if-len-ge64.false)) in
    record {
      state = with_tail c.in-Ok._core tail;
      saved = record {
        valid = with_valid c.in-Ok.ensures.valid.state (omega (arith, held, c.if-len-ge64.false)) (rw left at c.bytes_in_range.ensures);
        saved = core_and_tail-split g.F.ListBlockFunction.output (with_tail c.in-Ok._core tail) ∙ rw (c.in-Ok.ensures.ok, is, front_is, back_is) refl;
      };
      tail = held;
    }
