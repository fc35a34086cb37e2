use Rattle.std.proofs.Common.{◌≡◌, ◌+◌, ◌∙◌, length, refl, sym}
use Rattle.ripemd_c.proofs.KeptHmac.{cleared-both}
use Rattle.ripemd_c.proofs.kept.HmacBlockHasherKept.update_kept.Goals as goal

-- the inner state takes the piece in, and the outer one stays
pub returns-in-Some-clause-appended : goal.returns-in-Some-clause-appended
returns-in-Some-clause-appended g c done =
    let n = g.F.SavedCore.ByteArray.LEN in
    let added = c.update_kept.ensures.appended done in
    let outer = c.in-Some.ensures.some in
    let split = c.split_at_mut-inner.ensures in
    let half = c.LEN.ensures ∙ g.met.F.ResumableFunction.saved_hasher_size in
    let size : length c.update_kept.new.kept ≡ n + 64 = c.update_kept.auto.kept ∙ split.front_len ∙ half in
    let before = rw half at split.front in
    let behind = rw half at split.back in
    record {
      state = record { inner = added.state; outer = outer.state };
      before = record {
        valid = record { inner = added.before.valid; outer = outer.saved.valid };
        saved = rw (added.before.saved, outer.saved.saved, before, behind) refl;
      };
      after = record {
        valid = record { inner = added.after.valid; outer = outer.saved.valid };
        saved = rw (added.after.saved, outer.saved.saved) (sym (cleared-both n c.update_kept.new.kept c.split_at_mut-inner.result.1.now size));
      };
    }
