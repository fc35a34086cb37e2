use Rattle.std.proofs.Common.{◌≡◌, ℕ, List, sym, ap, ◌∙◌}
use Rattle.ripemd_block.specs.Standard.{walk}
use Rattle.ripemd_block.specs.OverLists.{walk_over_lists}
use Rattle.ripemd_block.proofs.traits.ResumableFunction.walk_on_output.Goals as goal

pub returns-in-Some : goal.returns-in-Some
returns-in-Some g c =
    let f = g.Self.ListBlockFunction in
    let lists = g.met.Self.ListBlockFunction.over_lists in
    let bytes = g.Self.Digest.ByteArray.bytes in
    let state = c.in-Some.state in
    let last = c.walk_on.new.first in
    let bs = c.args.blocks.now in
    let read : bytes c.unwrap-digest.result ≡ c.args.output.now = rw c.unwrap-digest.ensures at c.from_slice.ensures.same in
    let walked : (words : List ℕ) → f.are_words words → f.output words ≡ c.args.output.now → f.list last ≡ walk f.step words bs =
    λ words valid same. let is : f.list state ≡ words =
    g.met.Self.ResumableFunction.injective_output.injective (f.list state) words (lists.of_state state c.in-Some.ensures.valid) valid
    (sym (lists.of_output state) ∙ ap bytes c.in-Some.ensures.some ∙ read ∙ sym same) in
    ap f.list c.walk_on.ensures.value ∙ walk_over_lists lists state bs ∙ ap (λ (ws : List ℕ). walk f.step ws bs) is in
    let written : c.copy_from_slice.new.self ≡ f.output (f.list last) =
    c.copy_from_slice.ensures.after ∙ c.as_bytes.ensures.bytes ∙ ap bytes c.output.ensures.value ∙ lists.of_output last in
    record {
      value = λ words valid same. sym (written ∙ ap f.output (walked words valid same));
      valid = λ words valid same. rw (walked words valid same) at (lists.of_state last (c.walk_on.ensures.valid c.in-Some.ensures.valid));
    }
