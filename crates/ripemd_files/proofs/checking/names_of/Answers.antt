use Rattle.ripemd_block.proofs.Library.{rules, arith, sym, map-append, take_all}
use Rattle.ripemd_files.proofs.Zips.{all_first, all_zip_next}
use Rattle.ripemd_files.proofs.Checked.{named_till}
use Rattle.ripemd_files.proofs.checking.names_of.Goals as goal

pub returns-then-ne : goal.returns-then-ne
returns-then-ne c =
    named_till _ _ _ c.loop-line.line-index c.line-item.result c.loop-line-test.true (sym c.line-item.is) c.requires.first
    (search rules) c.loop-line.invariant

pub loop-line-preserved : goal.loop-line-preserved
loop-line-preserved c =
    rw (c.in_ok-push.ensures.items, map-append)
    (all_zip_next _ _ _ _ c.line-item.result _ c.loop-line-test.true (sym c.line-item.is) c.loop-line.invariant
    (search rules, c.as_slice.ensures.value))

pub returns : goal.returns
returns c = all_first _ _ _ (rw (take_all c.loop-line.line-index c.args.lines.now (omega (arith, c.loop-line-test.false))) at c.loop-line.invariant)
