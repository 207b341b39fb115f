-- By the tests. Assumes nothing.
use lib.ListN.{length}
use Rattle.writer.proofs.Fates.{gives-headless, gives-on}
use Rattle.writer.proofs.enter.enter_record.Goals as goal

pub returns-then-is_of_group-is_some : goal.returns-then-is_of_group-is_some
returns-then-is_of_group-is_some c = let m = gives-headless c.args.t c.args.number
    c.args.e (length c.args.out.now)
    c.is_of_group.ensures (rw c.is_some.ensures at c.if-is_of_group-is_some.true) c.unheaded.ensures
    c.args.out.now
    in record { result = m.0; buffer = m.1 }

pub returns : goal.returns
returns c = let m = gives-on c.args.t
    c.args.number
    c.args.e (length
    c.args.out.now)
    c.is_of_group.ensures (rw c.is_some.ensures at c.if-is_of_group-is_some.false)
    c.run_ended.ensures c.args.out.now (c.judge_record.ensures.result, c.judge_record.ensures.buffer)
    in record { result = m.0; buffer = m.1 }
