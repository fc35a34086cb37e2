use Rattle.ripemd_block.proofs.Library.{rules, arith, ◌<◌, length, get_or-map, length-map, AllZip-long}
use Rattle.ripemd_batch.specs.Lanes.{targets}
use Rattle.ripemd_files.proofs.InTurn.{each_written, first_next, first_unwritten, so_far_next, so_far_none}
use Rattle.ripemd_files.proofs.Printed.{read_more, read_none, read_one, reading_at}
use Rattle.ripemd_files.proofs.printing.print_outcomes.Goals as goal

pub loop-k-init : goal.loop-k-init
loop-k-init g c = rw c.new-lines.ensures.items (so_far_none read_none read_more _ _)

pub bounds-names-k : goal.bounds-names-k
bounds-names-k g c = omega (arith, c.loop-k-test.true, AllZip-long _ _ _ c.requires.read, length-map c.args.names.now (λ r. r.now))

pub loop-k-preserved : goal.loop-k-preserved
loop-k-preserved g c =
    let within : c.loop-k.k < length (targets c.args.names.now) = omega (arith, c.loop-k-test.true, AllZip-long _ _ _ c.requires.read) in
    let is_name = get_or-map (λ r. r.now) c.args.names.now c.loop-k.k _ _ (omega (arith, within, length-map c.args.names.now (λ r. r.now))) in
    so_far_next read_none read_more _ _ c.loop-k.invariant _ _ within is_name
    (reading_at (g.F.Folder.place c.args._folder.now) c.args.style _ _ c.requires.read _ _ _ c.loop-k-test.true is_name c.index-outcomes-k.is)
    _ _ _ c.in_ok-all.ensures.told (read_one _ _ _ c.in_ok-all.ensures.read)

pub returns-in_err-all-clause-err : goal.returns-in_err-all-clause-err
returns-in_err-all-clause-err g c =
    let within : c.loop-k.k < length (targets c.args.names.now) = omega (arith, c.loop-k-test.true, AllZip-long _ _ _ c.requires.read) in
    let is_name = get_or-map (λ r. r.now) c.args.names.now c.loop-k.k _ _ (omega (arith, within, length-map c.args.names.now (λ r. r.now))) in
    let stops = first_next read_none read_more _ _ c.loop-k.invariant _ _ within is_name
    (reading_at (g.F.Folder.place c.args._folder.now) c.args.style _ _ c.requires.read _ _ _ c.loop-k-test.true is_name c.index-outcomes-k.is) _ _ c.in_err-all.ensures.err in
    search (rules, stops)

pub returns-in_err-put-clause-err : goal.returns-in_err-put-clause-err
returns-in_err-put-clause-err g c =
    search (rules, first_unwritten read_none read_more _ _ c.loop-k.invariant _ _ (rw c.as_slice.ensures.value at c.in_err-put.ensures.err))

pub returns-clause-ok : goal.returns-clause-ok
returns-clause-ok g c =
    each_written read_none read_more _ _ c.loop-k.invariant _ (omega (arith, c.loop-k-test.false, AllZip-long _ _ _ c.requires.read))
    (rw c.as_slice.ensures.value at c.in_ok-put.ensures.ok)
