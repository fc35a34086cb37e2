use Rattle.std.proofs.Common.{[], ◌++◌, take, length-append, ◌∙◌, arith}
use Rattle.std.proofs.KnownBytes.{Consumes-nil, Consumes-trans}
use Rattle.std.proofs.lemmas.List.{append-nil, length-take-le}
use Rattle.ripemd_uses.proofs.calling.digest_of_reader.Goals as goal

pub reads-init : goal.reads-init
reads-init g c = record {
  bytes = [];
  given = Consumes-nil (g.R.Read.remaining c.args.reader.now);
  hashing = c.new-hasher.ensures.message;
  counted = omega arith;
}

pub reads-preserved : goal.reads-preserved
reads-preserved g c =
    let before = c.reads.invariant in
    let read = c.in_ok-count.ensures in
    let more = take c.in_ok-count.count c.read.new.buf in
    record {
      bytes = before.bytes ++ more;
      given = Consumes-trans _ _ _ before.bytes more before.given read.bytes.0;
      hashing = c.update.ensures.message before.bytes before.hashing;
      counted = omega (arith, before.counted, length-append before.bytes more, length-take-le _ c.read.new.buf read.bound.0);
    }

pub returns-then-count-eq0-clause-some : goal.returns-then-count-eq0-clause-some
returns-then-count-eq0-clause-some g c =
    let before = c.reads.invariant in
    let read = c.in_ok-count.ensures in
    let none = c.if-count-eq0.true in (
      before.bytes,
      rw append-nil at (Consumes-trans _ _ _ before.bytes [] before.given (rw none at read.bytes.0)),
      read.bytes.1 none (omega arith),
      omega (arith, before.counted),
      c.finalize.ensures.message before.bytes before.hashing,
    )

pub returns-then-count-left-clause-none : goal.returns-then-count-left-clause-none
returns-then-count-left-clause-none g c =
    let before = c.reads.invariant in
    let read = c.in_ok-count.ensures in
    let more = take c.in_ok-count.count c.read.new.buf in (
      before.bytes ++ more,
      Consumes-trans _ _ _ before.bytes more before.given read.bytes.0,
      omega (arith, before.counted, c.if-count-left.true, length-append before.bytes more, length-take-le _ c.read.new.buf read.bound.0),
    )
