use Rattle.ripemd_block.proofs.Library.{rules, arith, length, ◌≡◌, YieldsList-from_vec, YieldsList-turn, AllZip-long, all_zipped_more}
use Rattle.ripemd_files.proofs.Zips.{same_at, same_length}
use Rattle.ripemd_files.proofs.digests.outcomes_of.Goals as goal

pub offset_bounds-digests-len : goal.offset_bounds-digests-len
offset_bounds-digests-len g c =
    let turn = YieldsList-turn (YieldsList-from_vec {s = c.into_iter-content-iterator.result} c.args.contents.items (search rules) (search rules))
    c.loop-content.yielded c.loop-content.content-iterator c.loop-content.yielded_by c.next.result c.next.new.self c.in-Some.content c.in-Some.is c.next.ensures.steps in
    omega (arith, turn.0, c.len-in-loop-content.ensures, AllZip-long _ _ _ c.loop-content.invariant, same_length _ _ _ _ _ c.requires.made)

pub bounds-digests-len : goal.bounds-digests-len
bounds-digests-len g c =
    let turn = YieldsList-turn (YieldsList-from_vec {s = c.into_iter-content-iterator.result} c.args.contents.items (search rules) (search rules))
    c.loop-content.yielded c.loop-content.content-iterator c.loop-content.yielded_by c.next.result c.next.new.self c.in-Some.content c.in-Some.is c.next.ensures.steps in
    omega (arith, turn.0, c.len-in-loop-content.ensures, AllZip-long _ _ _ c.loop-content.invariant, same_length _ _ _ _ _ c.requires.made)

pub outcome_of-requires : goal.outcome_of-requires
outcome_of-requires g c =
    let turn = YieldsList-turn (YieldsList-from_vec {s = c.into_iter-content-iterator.result} c.args.contents.items (search rules) (search rules))
    c.loop-content.yielded c.loop-content.content-iterator c.loop-content.yielded_by c.next.result c.next.new.self c.in-Some.content c.in-Some.is c.next.ensures.steps in
    let at : c.len-in-loop-content.result ≡ length c.loop-content.yielded = omega (arith, c.len-in-loop-content.ensures, AllZip-long _ _ _ c.loop-content.invariant) in
    record { made = same_at _ _ _ _ _ c.requires.made c.len-in-loop-content.result c.index-digests-len.result c.in-Some.content (rw at turn.0) c.index-digests-len.is (rw at turn.1) }

pub loop-content-preserved : goal.loop-content-preserved
loop-content-preserved g c = rw c.in_ok-push.ensures.items (all_zipped_more _ _ _ _ _ c.loop-content.invariant c.in_ok-outcome.ensures)
