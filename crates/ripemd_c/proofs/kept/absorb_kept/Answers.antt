use Rattle.ripemd_block.proofs.Library.{◌≡◌, ◌+◌, ◌-◌, [], ◌++◌, length, take, drop, ap, arith, refl, sym, ◌∙◌, append-nil, drop_all, length-drop, nil_from_length, take_all, take_at}
use Rattle.ripemd_block.specs.Standard.{blocks, partial_block}
use Rattle.ripemd_block.specs.States.{HashState, IsHashState, after_blocks, fed, output_and_count, with_tail}
use Rattle.ripemd_block.specs.Laws.Saved.{length-output_and_count}
use Rattle.ripemd_block.specs.Laws.Pieces.{after_joined_blocks}
use Rattle.ripemd_c.proofs.KeptBytes.{both_kept, kept_parts, with_valid}
use Rattle.ripemd_c.proofs.kept.absorb_kept.Goals as goal
use Rattle.ripemd_c.proofs.kept.absorb_kept.Goals.{then-len-gt0, else-len-gt0}

pub returns : goal.returns
unfolding fed
returns g c =
    let f = g.F.ListBlockFunction in
    let r = g.met.F.ResumableFunction in
    let s = c.requires.kept in
    let h = s.state in
    let valid = s.saved.valid in
    let n = g.F.SavedCore.ByteArray.LEN in
    let all = h.tail ++ c.args.bytes.now in
    let parts = c.split_at_mut-core in
    let behind = parts.result.1.now in
    let halves = c.split_at_mut-back in
    let back = halves.result.0.now in
    let is =
    kept_parts r.injective_output r.saved_core_size valid c.args.kept.now (c.requires.size ∙ r.saved_hasher_size) s.saved.saved c.LEN.ensures
    parts.ensures.front parts.ensures.back in
    let size : length behind ≡ 64 = omega (arith, parts.ensures.back_len, c.requires.size, c.LEN.ensures, r.saved_hasher_size) in
    let none : halves.result.1.now ≡ [] = halves.ensures.back ∙ drop_all 64 behind (omega (arith, size)) in
    let of_tail : take (length h.tail) (drop 1 back) ≡ h.tail =
    ap (λ bs. take (length h.tail) (drop 1 bs)) (halves.ensures.front ∙ take_all 64 behind (omega (arith, size)) ∙ is.1)
    ∙ take_at h.tail _ (length h.tail) refl in
    let last = c.update_saved-2 in
    let whole = c.whole_blocks.result.0.now in
    let tail = c.whole_blocks.result.1.now in
    let core = after_blocks f.step h (blocks all) in
    let Taken : HashState → Type 0 = λ core. IsHashState f.are_words core × (output_and_count f.output core ≡ last.new.saved) in
    let walked : Taken core × (tail ≡ partial_block all) = elim c.if-len-gt0.branch [
      | then-len-gt0 w ↦
          let one = w.from_ref.result.now in
          let held = rw (w.split_at.ensures.back, ← s.tail, of_tail) at w.fill_block-rest.ensures in
          let joined : one ++ whole ≡ blocks all = rw (w.from_ref.ensures.value, c.whole_blocks.ensures.whole, w.rest-is) held.filled in
          let mid = w.update_saved.ensures.valid h valid (is.0 h.tail) in
          let mid_is = w.update_saved.ensures.saved h valid (is.0 h.tail) ∙ sym w.core-is in
          let taken : Taken core =
          rw (← joined, ← after_joined_blocks f.step h one whole) (last.ensures.valid _ mid mid_is, last.ensures.saved _ mid mid_is) in
          (taken, rw (c.whole_blocks.ensures.tail, w.rest-is) held.rest)
      | else-len-gt0 w ↦
          let empty : h.tail ≡ [] = nil_from_length h.tail (omega arith) in
          let joined : whole ≡ blocks all = rw (c.whole_blocks.ensures.whole, w.rest-is, empty) refl in
          let same = is.0 h.tail ∙ sym w.core-is in
          let taken : Taken core = rw (← joined) (last.ensures.valid h valid same, last.ensures.saved h valid same) in
          (taken, rw (c.whole_blocks.ensures.tail, w.rest-is, empty) refl)
    ] in
    let room : length (drop (1 + length tail) back) ≡ 63 - length tail = omega (arith, length-drop (1 + length tail) back, halves.ensures.front_len) in
    let same : fed f.step h c.args.bytes.now ≡ with_tail core tail = ap (with_tail core) (sym walked.1) in
    let core_is = walked.0.1 in
    record {
      state = h;
      before = s.saved;
      after = rw same (record {
        valid = with_valid walked.0.0 (omega (arith, c.whole_blocks.ensures.tail_len)) c.bytes_in_range.ensures;
        saved = both_kept f.output core tail n last.new.saved (c.put_tail.new.place ++ halves.result.1.now) (drop (1 + length tail) back)
            (ap length (sym core_is) ∙ length-output_and_count r.injective_output core walked.0.0 ∙ sym r.saved_core_size) core_is
            (rw (none, append-nil c.put_tail.new.place) c.put_tail.ensures) room;
      });
    }
