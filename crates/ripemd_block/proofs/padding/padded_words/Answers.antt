use Rattle.std.proofs.Common.{◌≡◌, ℕ, ◌/◌, ◌-◌, ◌*◌, ◌<◌, ◌∙◌, length, take, drop, replicate, slice_set, ap, sym, arith}
use Rattle.ripemd_block.proofs.LastBlocks.{words_marked, words_padded}
use Rattle.ripemd_block.proofs.padding.padded_words.Goals as goal

pub returns : goal.returns
returns c =
    let tail = c.args.tail.now in
    let front = c.read_words.new.words in
    let parts = c.split_at_mut-front in
    let back = parts.result.1.now in
    let behind = c.split_at_mut-behind.result.0.now in
    let n = length front in
    let place : length tail / 4 ≡ n = sym (c.read_words.ensures.size ∙ parts.ensures.front_len) in
    let whole : length tail ≡ 4 * n = omega (arith, place, c.requires.words) in
    let few : n < 14 = omega (arith, whole, c.requires.short) in
    let left : length back - 2 ≡ 14 - n = omega (arith, parts.ensures.back_len, place) in
    let zeros : behind ≡ take (length back - 2) (drop n (replicate 16 0)) =
    c.split_at_mut-behind.ensures.front ∙ ap (take (length back - 2)) (parts.ensures.back ∙ ap (λ (i : ℕ). drop i (replicate {A = ℕ} 16 0)) place) in
    rw c.block_of.ensures
    (words_padded tail c.args.bit_len front (slice_set behind 0 0x80) c.read_words-2.new.words c.read_words.ensures.bytes c.requires.short whole
    (words_marked n (length back - 2) behind few left zeros) (c.read_words-2.ensures.bytes ∙ c.to_le_bytes.ensures))
