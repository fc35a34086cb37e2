use Rattle.ripemd_block.proofs.Library.{◌≡◌, ◌+◌, ◌-◌, ◌<◌, ◌∙◌, ◌∷◌, ◌++◌, length, take, drop, refl, ap, arith, length-append, append_assoc, length-drop, take_at, All-append}
use Rattle.ripemd_block.specs.Laws.Pieces.{fed_short}
use Rattle.ripemd_c.proofs.KeptBytes.{both_kept, kept_parts, with_valid}
use Rattle.ripemd_c.proofs.kept.append_kept.Goals as goal

pub returns : goal.returns
returns g c =
    let r = g.met.F.ResumableFunction in
    let s = c.requires.kept in
    let h = s.state in
    let valid = s.saved.valid in
    let bytes = c.args.bytes.now in
    let parts = c.split_at_mut-tail in
    let held = c.split_at_mut-held in
    let room = held.result.1.now in
    let is =
    kept_parts r.injective_output r.saved_core_size valid c.args.kept.now (c.requires.size ∙ r.saved_hasher_size) s.saved.saved c.LEN.ensures
    parts.ensures.front parts.ensures.back in
    let fits : length (h.tail ++ bytes) < 64 = omega (arith, length-append h.tail bytes, s.tail, c.requires.short) in
    let front_is : held.result.0.now ≡ length h.tail ∷ h.tail =
    held.ensures.front ∙ ap (take (1 + c.args.len)) is.1 ∙ take_at (length h.tail ∷ h.tail) _ (1 + c.args.len) (omega (arith, s.tail)) in
    let size : length parts.result.1.now ≡ 64 = omega (arith, parts.ensures.back_len, c.requires.size, c.LEN.ensures, r.saved_hasher_size) in
    let left : length (drop (length bytes) room) ≡ 63 - length (h.tail ++ bytes) =
    omega (arith, length-drop (length bytes) room, held.ensures.back_len, length-append h.tail bytes, s.tail, size) in
    record {
      state = h;
      before = s.saved;
      after = rw (fed_short g.F.ListBlockFunction.step h bytes valid.count fits) (record {
        valid = with_valid valid fits (All-append (λ b. b < 256) h.tail bytes valid.tail.bytes c.bytes_in_range.ensures);
        saved = both_kept g.F.ListBlockFunction.output h (h.tail ++ bytes) g.F.SavedCore.ByteArray.LEN parts.result.0.now _ (drop (length bytes) room)
            (parts.ensures.front_len ∙ c.LEN.ensures) (is.0 h.tail)
            (rw (c.write_short.ensures, front_is, append_assoc h.tail bytes (drop (length bytes) room), length-append h.tail bytes, s.tail) refl) left;
      });
    }
