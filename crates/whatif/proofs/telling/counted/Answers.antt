-- By what the line asks. Assumes nothing.
use Rattle.std.proofs.Common.{refl}
use Rattle.whatif.proofs.Tellings.{counted-by}
use Rattle.whatif.proofs.telling.counted.Goals as goal

pub returns-in-Nothing : goal.returns-in-Nothing
returns-in-Nothing c = counted-by c.args.line.now c.read_line-asked.ensures c.in-Nothing.is c.args.counts refl

pub returns-in-Estimate : goal.returns-in-Estimate
returns-in-Estimate c =
    counted-by c.args.line.now c.read_line-asked.ensures c.in-Estimate.is c.args.counts (rw (c.with_slip.ensures, c.is_answered.ensures))

pub returns-in-Wrong : goal.returns-in-Wrong
returns-in-Wrong c = counted-by c.args.line.now c.read_line-asked.ensures c.in-Wrong.is c.args.counts (rw c.one_more.ensures)
