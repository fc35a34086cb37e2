use Rattle.ripemd_block.proofs.Library.{◌≡◌, ℕ, ◌+◌, ◌*◌, ◌%◌, ◌^◌, List, length, arith, ap, ◌∙◌, refl, fold-append}
use Rattle.ripemd_block.specs.Standard.{blocks, partial_block, walk, with_padding}
use Rattle.ripemd_block.specs.OverLists.{walk_over_lists}
use Rattle.ripemd_block.specs.Laws.Pieces.{with_padding_rest}
use Rattle.ripemd_block.proofs.block_core.walk_message.Goals as goal

-- a walk through the whole blocks of a message and then through the last ones is one through all
walk_of_blocks : (first : List ℕ) (step : List ℕ → List ℕ → List ℕ) (before n : ℕ) (m tail : List ℕ) (whole last : List (List ℕ))
    → whole ≡ blocks m
    → tail ≡ partial_block m
    → n ≡ 8 * (before + length m) % 2 ^ 64
    → last ≡ blocks (with_padding tail n)
    → walk step (walk step first whole) last ≡ walk step first (blocks (with_padding m (8 * (before + length m) % 2 ^ 64)))
walk_of_blocks first step before n m tail whole last of_whole of_tail bits of_last =
    let bit_length : ℕ = 8 * (before + length m) % 2 ^ 64 in
    let walks = fold-append step first (blocks m) (blocks (with_padding (partial_block m) bit_length)) in
    rw (of_whole, of_last, of_tail, bits, with_padding_rest m bit_length, walks) refl

pub returns-clause-value : goal.returns-clause-value
returns-clause-value g c =
    let f = g.F.ListBlockFunction in
    let lists = g.met.F.ListBlockFunction.over_lists in
    let first = c.args.first in
    let message = c.args.message.now in
    let parts = c.whole_blocks in
    let tail = parts.result.1.now in
    let before = c.walk-state.result in
    let ends = c.walk_tail.new.state in
    let whole = parts.result.0.now in
    let start : f.list before ≡ walk f.step (f.list first) whole =
    ap f.list c.walk-state.ensures.value ∙ walk_over_lists lists first whole in
    let walks : (n : ℕ) → ends ≡ walk g.F.BlockFunction.step_of before (blocks (with_padding tail n))
    → n ≡ 8 * (c.args.before + length message) % 2 ^ 64
    → f.list ends ≡ walk f.step (f.list first) (blocks (with_padding message (8 * (c.args.before + length message) % 2 ^ 64))) =
    λ n value bits. let last = blocks (with_padding tail n) in
    ap f.list value ∙ walk_over_lists lists before last ∙ ap (λ (xs : List ℕ). walk f.step xs last) start
    ∙ walk_of_blocks (f.list first) f.step c.args.before n message tail whole last parts.ensures.whole parts.ensures.tail bits refl in
    walks _ c.walk_tail.ensures.value (omega arith)
