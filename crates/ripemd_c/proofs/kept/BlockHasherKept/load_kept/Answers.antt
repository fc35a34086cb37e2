use Rattle.std.proofs.Common.{◌∙◌}
use Rattle.ripemd_c.proofs.KeptBytes.{kept_core}
use Rattle.ripemd_c.proofs.kept.BlockHasherKept.load_kept.Goals as goal

-- the first bytes of a hasher are its core's
pub returns-in_default-clause-none : goal.returns-in_default-clause-none
returns-in_default-clause-none g c h valid same =
    let r = g.met.F.ResumableFunction in
    kept_core r.injective_output r.saved_core_size valid c.args.kept.now (c.requires ∙ r.saved_hasher_size) same c.LEN.ensures
    c.split_at.ensures.front c.in_default.ensures.err
