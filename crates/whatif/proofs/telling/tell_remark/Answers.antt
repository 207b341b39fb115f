-- By what the line asks. Assumes nothing.
use Rattle.printing.proofs.Texts.{says-none}
use Rattle.whatif.proofs.Tellings.{remark-by}
use Rattle.whatif.proofs.telling.tell_remark.Goals as goal

pub returns-in-Nothing : goal.returns-in-Nothing
returns-in-Nothing c = remark-by c.args.line.now c.read_line-asked.ensures c.in-Nothing.is c.args.number says-none

pub returns-in-Estimate : goal.returns-in-Estimate
returns-in-Estimate c = remark-by c.args.line.now c.read_line-asked.ensures c.in-Estimate.is c.args.number c.say_refusal.ensures

pub returns-in-Wrong : goal.returns-in-Wrong
returns-in-Wrong c = remark-by c.args.line.now c.read_line-asked.ensures c.in-Wrong.is c.args.number c.say_unread.ensures
