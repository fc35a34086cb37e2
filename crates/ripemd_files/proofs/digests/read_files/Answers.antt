use Rattle.ripemd_block.proofs.Library.{rules, arith, ◌+◌, length-map, take_all}
use Rattle.ripemd_batch.specs.Lanes.{targets}
use Rattle.ripemd_files.proofs.Zips.{all_first, all_zip_map_next, first_of}
use Rattle.ripemd_files.proofs.digests.read_files.Goals as goal

pub returns-then-not-is_empty : goal.returns-then-not-is_empty
returns-then-not-is_empty g c =
    first_of _ c.loop-name.name-index _ _ (rw length-map (omega (arith, c.loop-name-test.true))) c.loop-name.invariant.each (λ _. search rules)

pub returns-then-not-short-2 : goal.returns-then-not-short-2
returns-then-not-short-2 g c =
    rw c.in_ok-push.ensures.items
    (first_of _ (c.loop-name.name-index + 1) _ _ (rw length-map (omega (arith, c.loop-name-test.true)))
    (all_zip_map_next (λ r. r.now) _ c.args.names.now _ _ _ _ c.loop-name-test.true c.loop-name.invariant.each c.in_ok-content.ensures.content) (λ _. search rules))

pub loop-name-preserved : goal.loop-name-preserved
loop-name-preserved g c = record {
  each = rw c.in_ok-push.ensures.items
      (all_zip_map_next (λ r. r.now) _ c.args.names.now _ _ _ _ c.loop-name-test.true c.loop-name.invariant.each c.in_ok-content.ensures.content);
  room = search rules;
}

pub returns : goal.returns
returns g c = all_first _ _ _ (rw (take_all c.loop-name.name-index (targets c.args.names.now) (rw length-map (omega (arith, c.loop-name-test.false)))) at c.loop-name.invariant.each)
