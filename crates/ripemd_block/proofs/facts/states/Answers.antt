use Rattle.std.proofs.Common.{◌-◌, ◌^◌, ◌<◌, rules, refl, arith}
use Rattle.std.proofs.lemmas.List.Elements.{All-nil, All-replicate}
use Rattle.ripemd_block.proofs.facts.states.Goals as goal

pub returns : goal.returns
returns c = record {
  greatest = record {
    words = record { count = refl; fit = All-replicate (λ w. w < 2 ^ 32) 5 (2 ^ 32 - 1) (omega arith) };
    count = omega arith;
    tail = record { short = omega arith; bytes = All-replicate (λ b. b < 256) 63 255 (omega arith) };
  };
  no_missing_word = λ state. omega (arith, state.words.count);
  no_further_word = λ state. omega (arith, state.words.count);
  no_greater_word = λ state. omega (arith, state.words.fit 0 0 (omega arith));
  no_greater_count = λ state. omega (arith, state.count);
  no_longer_tail = λ state. omega (arith, state.tail.short);
  no_greater_byte = λ state. omega (arith, state.tail.bytes 0 0 (omega arith));
  core = record {
    state = record {
      words = record { count = refl; fit = search rules };
      count = omega arith;
      tail = record { short = omega arith; bytes = All-nil (λ b. b < 256) };
    };
    no_tail = refl;
  };
  no_core_with_tail = λ state. absurd (cc);
}
