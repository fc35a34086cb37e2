use Rattle.ripemd_block.proofs.Library.{ℕ, refl, sym, ◌∙◌, arith, List, [], ◌∷◌, ◌++◌, Bor, map-id, IfOk-weaker, IfErr-weaker}
use Rattle.ripemd.specs.Standard.{word_bytes, ripemd160, compress, ripemd}
use Rattle.ripemd.specs.States.{IsState, hasher_bytes}
use Rattle.ripemd.specs.declared.replay.Command.{Command}
use Rattle.ripemd.specs.declared.replay.Command.TheVariants.{New, Update, Fork, Finish}
use Rattle.ripemd.specs.Replay.{Gives}
use Rattle.ripemd.specs.ReplayLaws.{ripemd_of_new, gives_once, gives_or_stops}
use Rattle.ripemd_block.specs.Laws.Saved.{hasher_bytes_injective}
use Rattle.ripemd_uses.proofs.commands.digests_of_ends.Goals as goal

-- the commands, and what the machine makes of them
commands : Bor (List ℕ) → Bor (List ℕ) → Bor (List ℕ) → List Command
commands start end other =
    New ∷ Update 0 start ∷ Fork 0 ∷ Update 0 end ∷ Update 1 other ∷ Finish 0 ∷ Finish 1 ∷ []

gives : (start end other : Bor (List ℕ)) → Gives ripemd160.start (compress ripemd160) word_bytes (IsState ripemd160)
    hasher_bytes (commands start end other)
    (ripemd ripemd160 (start.now ++ end.now) ∷ ripemd ripemd160 (start.now ++ other.now) ∷ [])
unfolding commands
gives start end other =
    let first = ripemd_of_new ripemd160 (start.now ++ end.now) in
    let second = ripemd_of_new ripemd160 (start.now ++ other.now) in (
      _,
      (
        _,
        refl,
        (
          _,
          (omega arith, refl),
          (
            _,
            (omega arith, refl),
            (
              _,
              (omega arith, refl),
              (_, (omega arith, refl), (_, (omega arith, refl), (_, (omega arith, refl), refl))),
            ),
          ),
        ),
      ),
      rw (first, second) refl,
    )

pub returns-clause-digests : goal.returns-clause-digests
unfolding commands
returns-clause-digests c =
    IfOk-weaker c.replay.result _ _
    (λ digests given.
    sym (map-id digests.items)
    ∙ gives_once ripemd160.start (compress ripemd160) word_bytes (IsState ripemd160) hasher_bytes (hasher_bytes_injective ripemd160)
    (commands c.args.start c.args.end c.args.other) _ _ given (gives c.args.start c.args.end c.args.other))
    c.replay.ensures.digests

pub returns-clause-error : goal.returns-clause-error
unfolding commands
returns-clause-error c =
    IfErr-weaker c.replay.result _ _
    (λ error stops.
    gives_or_stops ripemd160.start (compress ripemd160) word_bytes (IsState ripemd160) hasher_bytes
    (hasher_bytes_injective ripemd160) (commands c.args.start c.args.end c.args.other) _ error
    (gives c.args.start c.args.end c.args.other) stops)
    c.replay.ensures.error
