use Rattle.std.proofs.Common.{rules, arith, refl, sym, ap, ◌∙◌, []}
use Rattle.ripemd_files.proofs.Grouped.{ends_list, goes_on, line_ends, none_ends, reads_nothing, stops_piece, stops_reading}
use Rattle.ripemd_files.proofs.list.read_lines.Goals as goal
use Rattle.ripemd_files.proofs.list.read_lines.Goals.{in-Whole+in_ok-misformatted-in-Whole, in-Nothing}

pub lines-init : goal.lines-init
lines-init g c =
    let empty = c.in_ok-lines.ensures.items in
    let (reads, whole) = reads_nothing _ (g.R.ReadList.state c.args.reader.now).left c.args.cursor.now _ empty in
    record {
      reads = reads;
      whole = whole;
      readable = c.requires.readable;
      advanced = λ filled. absurd (omega (arith, rw empty at filled));
      bounded = λ filled. absurd (omega (arith, rw empty at filled));
      behind = omega arith;
    }

pub returns-in_err-piece-clause-err : goal.returns-in_err-piece-clause-err
returns-in_err-piece-clause-err g c =
    search (rules, stops_reading _ _ _ _ _ _ _ c.lines.invariant.reads c.lines.invariant.whole c.in_err-piece.ensures.err)

pub returns-clause-ok : goal.returns-clause-ok
returns-clause-ok g c =
    let filled = rw c.as_slice.ensures.value at (c.is_group.ensures (search (rules, c.lines-test.false))) in
    record {
      rest = [];
      reads = c.lines.invariant.reads;
      ended = (c.lines.invariant.whole, refl);
      stage = c.lines.invariant.readable;
      advanced = λ _. c.lines.invariant.advanced filled;
      bounded = λ _. c.lines.invariant.bounded filled;
    }

pub returns-in_err-misformatted-in-Whole-clause-err : goal.returns-in_err-misformatted-in-Whole-clause-err
returns-in_err-misformatted-in-Whole-clause-err g c =
    search (rules, stops_piece _ _ _ (g.R.ReadList.state c.read_line.new.self) _ _ _ c.lines.invariant.reads c.lines.invariant.whole _ _ c.in-Whole.is c.in_ok-piece.ensures.piece _ c.in_err-misformatted-in-Whole.ensures.err)

pub lines-preserved : goal.lines-preserved
lines-preserved g c =
    let among = sym c.stage.ensures ∙ c.in-None-Among.is-1 in
    elim c.match-piece.branch [
      | in-Whole+in_ok-misformatted-in-Whole w ↦
          let line = w.in_ok-misformatted-in-Whole.ensures in
          let (reads, whole) = goes_on _ _ _ (g.R.ReadList.state c.read_line.new.self) _ _ _ c.lines.invariant.reads c.lines.invariant.whole _ _ w.in-Whole.is among
          c.in_ok-piece.ensures.piece _ _ (rw (w.as_slice-in-Whole.ensures.value, sym w.misformatted-is ∙ c.in-None-Among.is-0) at line.takes) line.advances in
          rw (w.cursor-is, w.lines-is)
          (record {
            reads = reads;
            whole = whole;
            readable = c.in_ok-piece.ensures.stage ∙ among;
            advanced = λ _. omega (arith, line.advances, c.lines.invariant.behind);
            bounded = λ _. line.bound;
            behind = omega (arith, line.advances, c.lines.invariant.behind);
          })
      | in-Nothing w ↦ absurd (ends_list _ _ _ (g.R.ReadList.state c.read_line.new.self) _ _ _ c.lines.invariant.reads c.lines.invariant.whole c.read_line.new.text.items _ w.in-Nothing.is among)
    ]

pub returns-in_default-clause-ok : goal.returns-in_default-clause-ok
returns-in_default-clause-ok g c =
    let piece = c.in_ok-piece.ensures in
    elim c.match-piece.branch [
      | in-Whole+in_ok-misformatted-in-Whole w ↦
          let line = w.in_ok-misformatted-in-Whole.ensures in
          line_ends _ _ _ (g.R.ReadList.state c.read_line.new.self) _ _ _ c.lines.invariant.reads c.lines.invariant.whole _ _ c.lines.invariant.behind _ w.in-Whole.is piece.piece
          piece.stage c.stage.ensures _ (rw (w.as_slice-in-Whole.ensures.value, ← w.cursor-is, ← w.lines-is, ← w.misformatted-is) at line.takes) (rw (← w.cursor-is) at line.advances)
          (rw (← w.cursor-is) at line.bound)
      | in-Nothing w ↦
          rw w.cursor-is
          (none_ends _ _ _ (g.R.ReadList.state c.read_line.new.self) _ _ _ c.lines.invariant.reads c.lines.invariant.whole _ _ _ w.in-Nothing.is piece.piece piece.stage
          c.stage.ensures (ap (λ v. v.items) w.lines-is) w.misformatted-is)
    ]
