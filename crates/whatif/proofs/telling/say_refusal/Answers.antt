-- By the code of the slip. Assumes nothing.
use Rattle.whatif.proofs.Tellings.{no-refusal, refusal}
use Rattle.whatif.proofs.telling.say_refusal.Goals as goal

pub returns-then-slip-eq0 : goal.returns-then-slip-eq0
returns-then-slip-eq0 c = no-refusal c.args.number c.args.ration c.args.change c.what_if-slip.ensures.exact c.if-slip-eq0.true

pub returns : goal.returns
returns c =
    refusal c.args.number c.args.ration c.args.change c.what_if-slip.ensures.exact c.if-slip-eq0.false c.say_refused.ensures
