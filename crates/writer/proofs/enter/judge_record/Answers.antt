-- By the tests. Assumes nothing.
use lib.ListN.{length}
use Rattle.writer.proofs.Fates.{gives-withheld, gives-close, gives-judged}
use Rattle.writer.proofs.enter.judge_record.Goals as goal

pub returns-then-e-a : goal.returns-then-e-a
returns-then-e-a c = let m = gives-withheld c.args.t
    c.args.number
    c.args.e (length
    c.args.out.now) (rw c.is_some.ensures at c.if-e-a.true) c.withholding.ensures
    c.args.out.now
    in record { result = m.0; buffer = m.1 }

pub returns-then-e-eq-CLOSE : goal.returns-then-e-eq-CLOSE
returns-then-e-eq-CLOSE c = let m = gives-close c.args.t
    c.args.number
    c.args.e (length
    c.args.out.now) (rw c.is_some.ensures at c.if-e-a.false)
    c.if-e-eq-CLOSE.true c.enter_close.ensures c.args.out.now
    in record { result = m.0; buffer = m.1 }

pub returns : goal.returns
returns c = let m = gives-judged c.args.t
    c.args.number
    c.args.e
    c.args.out.now
    (rw c.is_some.ensures at c.if-e-a.false) c.if-e-eq-CLOSE.false
    c.write_entry-w.ensures.result c.write_entry-w.ensures.buffer c.answered.ensures
    in record { result = m.0; buffer = m.1 }
