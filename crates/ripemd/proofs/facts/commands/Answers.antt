use Rattle.ripemd_block.proofs.Library.{◌≡◌, ℕ, zero, suc, List, [], ◌∷◌, take, Some, refl, arith}
use Rattle.std.specs.List.{slice_get}
use Rattle.ripemd_block.specs.States.{HashState}
use Rattle.ripemd.specs.Types.{Command, New, Load}
use Rattle.ripemd.specs.Replay.{Machine, empty_machine, hasher_of, Does, Runs}
use Rattle.ripemd.specs.Worked.{NoSecond}
use Rattle.ripemd.proofs.facts.commands.Goals as goal

module _ (start : List ℕ) (step : List ℕ → List ℕ → List ℕ) (output : List ℕ → List ℕ)
    (is_valid : HashState → Type 0) (state_bytes : HashState → List ℕ) where
  -- there is no second hasher after the first
  is_not_done : (c : Command) (k l : Machine) → hasher_of c ≡ Some 1
      → Does start step output is_valid state_bytes New empty_machine k
      → Does start step output is_valid state_bytes c k l → ⊥
  is_not_done _ k l named new does = grind arith

  no_second : (c : Command) → hasher_of c ≡ Some 1 → NoSecond start step output is_valid state_bytes c
  no_second c named = (
    record {
      place = 1;
      command = c;
      machine = _;
      before = (_, refl, refl);
      command_is = refl;
      reason = (refl, named, omega arith);
    },
    λ digests (m, (k, new, (l, does, last)), are). is_not_done c k l named new does,
  )

  -- no command of these is done
  none_done : (place : ℕ) (c : Command) (m n : Machine)
      → Runs start step output is_valid state_bytes (take place (Load 0 ∷ New ∷ [])) empty_machine m
      → slice_get (Load 0 ∷ New ∷ []) place ≡ Some c → Does start step output is_valid state_bytes c m n → ⊥
  none_done zero c m n before at does = grind arith
  none_done (suc place) c m n (k, first, others) at does = omega arith

pub returns : goal.returns
returns g c = record {
  digests = λ a b saved h valid same. (_, (_, refl, (_, (h, valid, same, refl), (_, (omega arith, refl), (_, (omega arith, refl), (_, (omega arith, refl), (_, (omega arith, refl), (_, (omega arith, refl), (_, (omega arith, refl), (_, (omega arith, refl), (_, (omega arith, refl), (_, (h, valid, same, refl), (_, (omega arith, refl), (_, refl, (_, (omega arith, refl), (_, (omega arith, refl), (_, (omega arith, refl), (_, (omega arith, refl), (_, (omega arith, refl), (_, (omega arith, refl), (_, (omega arith, refl), (_, (omega arith, refl), refl))))))))))))))))))))), refl);
  no_hasher = λ a. (
    no_second _ _ _ _ _ _ refl,
    no_second _ _ _ _ _ _ refl,
    no_second _ _ _ _ _ _ refl,
    no_second _ _ _ _ _ _ refl,
    no_second _ _ _ _ _ _ refl,
  );
  no_saved = (
    record {
      place = 2;
      command = _;
      machine = _;
      before = (_, refl, (_, (omega arith, refl), refl));
      command_is = refl;
      reason = (refl, refl, omega arith);
    },
    λ digests gives. grind arith,
  );
  bad_state = λ a none. (
    record {
      place = 1;
      command = _;
      machine = _;
      before = (_, refl, refl);
      command_is = refl;
      reason = (refl, (a.now, refl, none));
    },
    λ digests (m, (k, new, (l, (h, valid, same, is), last)), are). none h valid same,
  );
  no_memory = (
    record {
      place = 0;
      command = _;
      machine = _;
      before = refl;
      command_is = refl;
      reason = (tt, (_, refl));
    },
    λ digests gives. grind arith,
  );
  memory_of_none = λ stops.
      none_done _ _ _ _ _ _ _ _ stops.reason.1.0 stops.before stops.command_is stops.reason.1.1;
  another_place = λ stops. grind arith;
  another_hasher = λ stops. grind arith;
  a_hasher = λ stops. grind arith;
  a_saved_state = λ stops. grind arith;
}
