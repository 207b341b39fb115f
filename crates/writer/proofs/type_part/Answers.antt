-- A line that goes on, or one that ends. Assumes nothing.
use lib.ListN.{length}
use borrow.Author.Tests.{not-true, not-false}
use Rattle.writer.proofs.Calls.{open-call, ended-call}
use Rattle.writer.proofs.type_part.Goals as goal

pub returns-then-not-c : goal.returns-then-not-c
returns-then-not-c c = let cut = c.cut_line-c.ensures in
    let m = open-call c.args.typing c.args.line.now c.args.part.now (length c.args.out.now) cut.value
    (not-true _ c.if-not-c.true) cut.line_after cut.taken_in_bounds
    c.args.out.now c.args.remarks.now
    in record {
      typing = m.0;
      taken = m.1.0;
      written = m.1.1.0;
      kept = m.1.1.1.0;
      «record» = m.1.1.1.1.0;
      remark = m.1.1.1.1.1.0;
      inside = m.1.1.1.1.1.1;
    }

pub returns : goal.returns
returns c = let cut = c.cut_line-c.ensures in
    let done = c.type_line-l.ensures in let m = ended-call c.args.typing c.args.line.now c.args.part.now
    (length c.args.out.now) cut.value
    (not-false _ c.if-not-c.false) cut.line_after cut.taken_in_bounds
    c.whole.ensures c.type_line-l.result c.args.out.now (done.typist, (done.bytes, (done.record, done.remark))) c.next.ensures
    in record {
      typing = m.0;
      taken = m.1.0;
      written = m.1.1.0;
      kept = m.1.1.1.0;
      «record» = m.1.1.1.1.0;
      remark = m.1.1.1.1.1.0;
      inside = m.1.1.1.1.1.1;
    }
