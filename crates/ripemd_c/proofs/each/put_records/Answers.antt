use Rattle.ripemd_block.proofs.Library.{◌≡◌, ℕ, ◌+◌, List, length, arith, refl, length-map, map-set, take_all, take_more_set, map-range_with_len_more}
use Rattle.std.specs.Borrow.{Bor}
use Rattle.ripemd_batch.specs.Lanes.{targets}
use Rattle.ripemd_c.specs.Records.{record_at}
use Rattle.ripemd_c.proofs.each.put_records.Goals as goal

pub loop-j-preserved : goal.loop-j-preserved
loop-j-preserved c =
    let j : ℕ = c.loop-j.j in
    let put : List (Bor (List ℕ)) = c.loop-j.places in
    let next = c.record_slice.result in
    let taken = take_more_set (targets put) j next.now (omega (arith, length-map put (λ m. m.now))) in
    record {
      so_far = cc (
        map-set (λ m. m.now) put j next,
        taken,
        map-range_with_len_more (record_at c.args.size c.args.bytes.now) c.args.at j (c.args.at + j) refl,
      );
    }

pub returns : goal.returns
returns c =
    let end : c.loop-j.j ≡ length c.args.places.now = omega arith in
    rw (take_all c.loop-j.j (targets c.loop-j.places) (omega (arith, length-map c.loop-j.places (λ m. m.now))), end) at c.loop-j.invariant.so_far
