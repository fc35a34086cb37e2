use Rattle.ripemd_block.proofs.Library.{rules, arith, sym, IfErr-weaker, IfOk-weaker, AllZip-long}
use Rattle.ripemd_files.proofs.Checked.{counts_more, counts_none, event_at}
use Rattle.ripemd_files.proofs.InTurn.{each_written, first_next, first_unwritten, so_far_next, so_far_none}
use Rattle.ripemd_files.proofs.checking.check_outcomes.Goals as goal

pub loop-k-init : goal.loop-k-init
loop-k-init g c = rw c.new-report.ensures.items (so_far_none counts_none counts_more _ _)

pub bounds-lines-k : goal.bounds-lines-k
bounds-lines-k g c = omega (arith, c.loop-k-test.true, AllZip-long _ _ _ c.requires.read)

pub returns-in_err-tell-clause-err : goal.returns-in_err-tell-clause-err
returns-in_err-tell-clause-err g c =
    let stops = first_next counts_none counts_more _ _ c.loop-k.invariant _ _ (omega (arith, c.loop-k-test.true, AllZip-long _ _ _ c.requires.read))
    (sym c.index-lines-k.is)
    (event_at (g.F.Folder.place c.args._folder.now) _ _ _ c.requires.read _ _ _ c.loop-k-test.true c.index-lines-k.is c.index-outcomes-k.is _ (rw c.as_slice.ensures.value at c.of-verdict.ensures))
    _ _ (rw c.as_slice-in-loop-k.ensures.value at c.in_err-tell.ensures.err) in
    search (rules, stops)

pub loop-k-preserved : goal.loop-k-preserved
loop-k-preserved g c =
    so_far_next counts_none counts_more _ _ c.loop-k.invariant _ _ (omega (arith, c.loop-k-test.true, AllZip-long _ _ _ c.requires.read))
    (sym c.index-lines-k.is)
    (event_at (g.F.Folder.place c.args._folder.now) _ _ _ c.requires.read _ _ _ c.loop-k-test.true c.index-lines-k.is c.index-outcomes-k.is _ (rw c.as_slice.ensures.value at c.of-verdict.ensures))
    _ _ _ (rw c.as_slice-in-loop-k.ensures.value at c.in_ok-tell.ensures.told) (λ earlier. c.add.ensures earlier _)

pub returns-clause-ok : goal.returns-clause-ok
returns-clause-ok g c =
    IfOk-weaker c.put.result _ _
    (λ _ wrote. each_written counts_none counts_more _ _ c.loop-k.invariant _ (omega (arith, c.loop-k-test.false, AllZip-long _ _ _ c.requires.read)) (rw c.as_slice-2.ensures.value at wrote)) c.put.ensures.ok

pub returns-clause-err : goal.returns-clause-err
returns-clause-err g c =
    IfErr-weaker c.put.result _ _
    (λ fault stops. first_unwritten counts_none counts_more _ _ c.loop-k.invariant _ fault (rw c.as_slice-2.ensures.value at stops)) c.put.ensures.err
