use Rattle.std.proofs.Common.{rules, false, [], ◌∷◌, codes, Err, refl, inl}
use Rattle.rmdsum.specs.Types.{Any, ZeroWithCheck}
use Rattle.rmdsum.specs.Arguments.{reading}
use Rattle.rmdsum.specs.Runs.{DoesAsked}
use Rattle.rmdsum.specs.Runs.Deed.{Refuses}
use Rattle.rmdsum.proofs.facts.worked_deeds.Goals as goal

refused : DoesAsked (reading false Any (codes "-cz" ∷ [])) (Refuses ZeroWithCheck ∷ []) false
refused = (Err ZeroWithCheck, inl refl, (refl, refl))

pub returns : goal.returns
returns c = search (rules, refused)
