use Rattle.ripemd_block.proofs.Library.{◌≡◌, ℕ, zero, suc, ◌+◌, ◌-◌, List, ◌∷◌, ◌++◌, map, arith, sym, ap, ap₂, ◌∙◌, flat_map-append, map-append, flat_map, range_with_len, zero-add}
use Rattle.std.proofs.Common.{add-zero, suc-add}
use Rattle.ripemd_batch.specs.Lanes.{made_by}
use Rattle.ripemd_c.specs.Records.{record_at}
use Rattle.ripemd_c.proofs.each.+write_records.Goals as goal

-- numbers in order, and those after them
in_order : (a k m : ℕ) → range_with_len a (k + m) ≡ range_with_len a k ++ range_with_len (a + k) m
in_order a zero m = simp (zero-add, add-zero)
in_order a (suc k) m =
    let next : a + 1 + k ≡ a + suc k = omega arith in
    rw suc-add (ap (λ (xs : List ℕ). a ∷ xs) (rw next at (in_order (a + 1) k m)))

pub returns-then-count-gt-RECORDS_AT_ONCE : goal.returns-then-count-gt-RECORDS_AT_ONCE
returns-then-count-gt-RECORDS_AT_ONCE g t c =
    let made : List ℕ → List ℕ = made_by g.D.Digest.step g.D.Digest.output c.args.hasher.now in
    let record_of : ℕ → List ℕ = record_at c.args.size c.args.bytes.now in
    let half : ℕ = c.half_of-half.result in
    let rest : ℕ = c.args.count - half in
    let all : half + rest ≡ c.args.count = omega arith in
    ap₂ ◌++◌ c.write_records.ensures c.write_records-then-count-gt-RECORDS_AT_ONCE.ensures
    ∙ sym (flat_map-append made (map record_of (range_with_len c.args.at half)) (map record_of (range_with_len (c.args.at + half) rest)))
    ∙ ap (flat_map made) (sym (map-append record_of (range_with_len c.args.at half) (range_with_len (c.args.at + half) rest))
    ∙ ap (map record_of) (sym (in_order c.args.at half rest) ∙ ap (range_with_len c.args.at) all))
