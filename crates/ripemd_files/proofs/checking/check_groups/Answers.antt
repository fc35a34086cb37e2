use Rattle.std.proofs.Common.{rules, arith, ◌∙◌}
use Rattle.ripemd_files.proofs.Checked.{checks_begin, checks_on, checks_over, stops_lines, stops_misformatted, stops_over, stops_reading_list}
use Rattle.ripemd_files.proofs.checking.check_groups.Goals as goal

pub groups-init : goal.groups-init
groups-init g c = record {
  so_far = checks_begin _ _ _ _ _ _ _ c.new-tally.ensures;
  readable = search rules;
  bounded = omega (arith, c.requires.start);
}

pub groups-preserved : goal.groups-preserved
groups-preserved g c = record {
  so_far = checks_on c.groups.invariant.so_far c.requires.start c.in_ok-group.ensures.ok c.as_slice.ensures.value c.in_ok-check_lines.ensures.ok
      c.in_ok-check_misformatted.ensures.told c.in_ok-check_misformatted.ensures.counts c.in-Among.is;
  readable = c.in_ok-group.ensures.ok.stage ∙ c.in-Among.is;
  bounded = c.in_ok-group.ensures.ok.bounded c.in-Among.is;
}

pub returns-in_err-group-clause-err : goal.returns-in_err-group-clause-err
returns-in_err-group-clause-err g c = search (rules, stops_reading_list c.groups.invariant.so_far c.requires.start)

pub returns-in_err-check_lines-clause-err : goal.returns-in_err-check_lines-clause-err
returns-in_err-check_lines-clause-err g c = search (rules, stops_lines c.groups.invariant.so_far c.requires.start c.in_ok-group.ensures.ok)

pub returns-in_err-check_misformatted-clause-err : goal.returns-in_err-check_misformatted-clause-err
returns-in_err-check_misformatted-clause-err g c =
    search (rules, stops_misformatted c.groups.invariant.so_far c.requires.start c.in_ok-group.ensures.ok c.as_slice.ensures.value c.in_ok-check_lines.ensures.ok)

pub returns-in_default-clause-ok : goal.returns-in_default-clause-ok
returns-in_default-clause-ok g c =
    checks_over c.groups.invariant.so_far c.requires.start c.in_ok-group.ensures.ok c.as_slice.ensures.value c.in_ok-check_lines.ensures.ok
    c.in_ok-check_misformatted.ensures.told c.in_ok-check_misformatted.ensures.counts c.in_default.not-Among
    c.in_ok-success-in_default.ensures.told c.in_ok-success-in_default.ensures.success

pub returns-in_err-success-in_default-clause-err : goal.returns-in_err-success-in_default-clause-err
returns-in_err-success-in_default-clause-err g c =
    let stops = stops_over c.groups.invariant.so_far c.requires.start c.in_ok-group.ensures.ok c.as_slice.ensures.value c.in_ok-check_lines.ensures.ok
    c.in_ok-check_misformatted.ensures.told c.in_ok-check_misformatted.ensures.counts c.in_err-success-in_default.ensures.err in
    search (rules, stops)
