-- By what the line asks. Assumes nothing.
use Rattle.printing.proofs.Texts.{says-none}
use Rattle.whatif.proofs.Tellings.{answer-by}
use Rattle.whatif.proofs.telling.tell_answer.Goals as goal

pub returns-in-Nothing : goal.returns-in-Nothing
returns-in-Nothing c = answer-by c.args.line.now c.read_line-asked.ensures c.in-Nothing.is says-none

pub returns-in-Estimate : goal.returns-in-Estimate
returns-in-Estimate c = answer-by c.args.line.now c.read_line-asked.ensures c.in-Estimate.is c.say_slip.ensures

pub returns-in-Wrong : goal.returns-in-Wrong
returns-in-Wrong c = answer-by c.args.line.now c.read_line-asked.ensures c.in-Wrong.is says-none
