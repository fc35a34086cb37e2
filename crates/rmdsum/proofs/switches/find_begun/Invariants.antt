use Rattle.std.proofs.Common.{◌≡◌, drop, filter, List, ◌∷◌}
use Rattle.rmdsum.specs.Types.{Found, Nothing, One, Several, Switch}
use Rattle.rmdsum.specs.Options.{begins, alone}
use Rattle.rmdsum.proofs.switches.find_begun.Given as goal

-- what is found when these are candidates too
abbrev joined : Found → List Switch → Found
joined Nothing more = alone more
joined (One switch) more = alone (switch ∷ more)
joined Several more = Several

abbrev pub invariant-loop-switch : goal.invariant-loop-switch
invariant-loop-switch l =
    alone (filter (begins l.name) l.switches) ≡ joined l.found (filter (begins l.name) (drop l.switch-index l.switches))
