use Rattle.ripemd_block.proofs.Library.{refl, sym, ◌∙◌, ap, arith, IfOk-at_ok}
use Rattle.ripemd_block.specs.States.{initial_state, finish}
use Rattle.ripemd_block.specs.Laws.Pieces.{fed_twice}
use Rattle.ripemd.specs.Replay.{from_state, imported}
use Rattle.ripemd.proofs.Replaying.{state_new, grown, hasher_added, hasher_set, array_added, digest_added, hasher_at, hasher_count, array_at, saved_count, valid_at, is_ok_unless}
use Rattle.ripemd.proofs.replay.apply.Goals as goal

pub returns-in-New : goal.returns-in-New
returns-in-New g c m held =
    grown held _ _ _ _ c.in-New.is tt refl c.add.ensures.ok c.add.ensures.err
    (hasher_added held _ (c.new.ensures.meaning ∙ state_new g.D.Digest.step g.D.Digest.start))

pub returns-in-Update : goal.returns-in-Update
returns-in-Update g c m held =
    let was = hasher_at held _ (from_state (initial_state g.D.Digest.start)) (omega arith) c.index_mut.ensures.value in
    rw c.in-Update.is (
      _,
      (omega (arith, hasher_count held), refl),
      hasher_set held _ _
          (c.update.ensures.fed ∙ rw was (fed_twice g.D.Digest.step _ _ c.in-Update.bytes.now)),
    )

pub returns-in-Reset : goal.returns-in-Reset
returns-in-Reset g c m held =
    rw c.in-Reset.is (
      _,
      (omega (arith, hasher_count held), refl),
      hasher_set held _ _
          (c.reset.ensures.meaning ∙ state_new g.D.Digest.step g.D.Digest.start),
    )

pub returns-in-Finish : goal.returns-in-Finish
returns-in-Finish g c m held =
    let reset = c.finalize_reset-digest.ensures.reset ∙ state_new g.D.Digest.step g.D.Digest.start in
    grown held _ _ _ _ c.in-Finish.is tt (omega (arith, hasher_count held), refl)
    c.add-in-Finish.ensures.ok c.add-in-Finish.ensures.err
    (digest_added (hasher_set held _ _ reset) (c.finalize_reset-digest.ensures.digest
    ∙ ap (finish g.D.Digest.step g.D.Digest.output) (hasher_at held _ _ (omega arith) c.index_mut-in-Finish.ensures.value)))

pub returns-in-Fork : goal.returns-in-Fork
returns-in-Fork g c m held =
    grown held _ _ _ _ c.in-Fork.is tt (omega (arith, hasher_count held), refl)
    c.add-in-Fork.ensures.ok c.add-in-Fork.ensures.err
    (hasher_added held _
    (ap g.D.HashMeaning.meaning c.duplicate-copy.ensures.same ∙ hasher_at held _ _ (omega arith) c.index.ensures))

pub returns-in-Save : goal.returns-in-Save
returns-in-Save g c m held =
    let was = hasher_at held _ (from_state (initial_state g.D.Digest.start)) (omega arith) c.index-in-Save.ensures in
    grown held _ _ _ _ c.in-Save.is tt (omega (arith, hasher_count held), refl)
    c.add-in-Save.ensures.ok c.add-in-Save.ensures.err
    (array_added held _ (c.serialize-array.ensures.bytes ∙ ap g.D.SerializableState.state_bytes was)
    (rw was at c.serialize-array.ensures.valid))

pub unwrap-loaded-requires : goal.unwrap-loaded-requires
unwrap-loaded-requires g c =
    let held = c.requires.1 in
    let new = from_state (initial_state g.D.Digest.start) in
    let bytes = array_at held _ new (omega arith) c.index-in-Load.ensures in
    is_ok_unless _ c.deserialize.ensures.err (λ none. none _ (valid_at held _ new (omega arith)) (sym bytes))

pub returns-in-Load : goal.returns-in-Load
returns-in-Load g c m held =
    let new = from_state (initial_state g.D.Digest.start) in
    let bytes = array_at held _ new (omega arith) c.index-in-Load.ensures in
    let loaded = IfOk-at_ok _ c.unwrap-loaded.ensures c.deserialize.ensures.ok in
    let valid = IfOk-at_ok _ c.unwrap-loaded.ensures c.deserialize.ensures.valid in
    let same = g.met.D.SerializableState.state_injective _ _ valid (valid_at held _ new (omega arith)) (loaded ∙ bytes) in
    grown held _ _ _ _ c.in-Load.is tt (omega (arith, saved_count held), refl)
    c.add-in-Load.ensures.ok c.add-in-Load.ensures.err (hasher_added held _ same)

pub returns-in-Ok : goal.returns-in-Ok
returns-in-Ok g c m held =
    grown held _ _ _ _ c.in-Import.is tt (_, c.in-Ok.ensures.valid, c.in-Ok.ensures.ok, refl)
    c.add-in-Ok.ensures.ok c.add-in-Ok.ensures.err
    (hasher_added held _ (sym (g.met.D.Digest.fed_nothing _ c.in-Ok.ensures.valid)))

pub returns-in-Err : goal.returns-in-Err
returns-in-Err g c m held = (refl, (c.in-Import.bytes.now, ap imported c.in-Import.is, c.in-Err.ensures.err))
