use Rattle.ripemd_block.proofs.Library.{◌≡◌, ℕ, ◌+◌, ◌%◌, ◌^◌, List, ◌++◌, length, rules, sym, ap, ◌∙◌, arith, nil_from_length}
use Rattle.ripemd_block.specs.Standard.{eight_bytes, walk}
use Rattle.ripemd_block.specs.States.{HashState, IsHashState, output_and_count}
use Rattle.ripemd_block.specs.Laws.Saved.{eight_bytes_injective, output_parts}
use Rattle.ripemd_block.proofs.block_core.update_saved.Goals as goal
use Rattle.ripemd_block.proofs.block_core.update_saved.Goals.{then-not-is_empty, else-not-is_empty}

pub returns : goal.returns
unfolding output_and_count
returns g c =
    let f = g.F.ListBlockFunction in
    let told = g.met.F.ResumableFunction.injective_output in
    let saved = c.args.saved.now in
    let blocks = c.args.blocks.now in
    let parts = c.split_at_mut-output in
    let walked : (core : HashState) → IsHashState f.are_words core → output_and_count f.output core ≡ saved
    → (f.output (walk f.step core.words blocks) ≡ c.if-not-is_empty.output) × f.are_words (walk f.step core.words blocks) =
    λ core valid same. let of_words : f.output core.words ≡ parts.result.0.now =
    (output_parts told core saved valid same).0 ∙ rw (← c.LEN.ensures) (sym parts.ensures.front) in
    elim c.if-not-is_empty.branch [
      | then-not-is_empty w ↦
          let after = w.walk_on_output.ensures in
          (rw w.output-is (after.value core.words valid.words of_words), after.valid core.words valid.words of_words)
      | else-not-is_empty w ↦
          let none : length blocks ≡ 0 = search (rules, w.if-not-is_empty.ensures) in
          rw (w.output-is, nil_from_length blocks none) (of_words, valid.words)
    ] in
    record {
      saved = λ core valid same. let of_count : eight_bytes c.read_count.result ≡ eight_bytes core.count =
          c.read_count.ensures ∙ parts.ensures.back ∙ rw c.LEN.ensures (sym (output_parts told core saved valid same).1) in
          let count = eight_bytes_injective c.read_count.result core.count (omega arith) valid.count of_count in
          rw (c.copy_from_slice.ensures.after, c.to_le_bytes.ensures, count)
          (ap (λ (o : List ℕ). o ++ eight_bytes ((core.count + length blocks) % 2 ^ 64)) (walked core valid same).0);
      valid = λ core valid same. record { words = (walked core valid same).1; count = omega arith; tail = valid.tail };
    }
