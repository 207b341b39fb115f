-- By the stage, the laws of the last word. Assumes nothing.
use Rattle.printing.proofs.Puts.{and-then}
use Rattle.last_word.proofs.Words.{end-closed, end-unfinished, end_refused}
use Rattle.last_word.proofs.put_end.Goals as goal

pub returns-then-account-eq2 : goal.returns-then-account-eq2
returns-then-account-eq2 c = rw (end-closed c.args.account c.if-account-eq2.true) c.put_text.ensures

pub returns-then-account-ne3 : goal.returns-then-account-ne3
returns-then-account-ne3 c =
    rw (end-unfinished c.args.account c.if-account-eq2.false c.if-account-ne3.true) c.put_text-then-account-ne3.ensures

pub returns : goal.returns
returns c =
    rw (end_refused c.args.account c.if-account-eq2.false c.if-account-ne3.false) (and-then c.put_text-end.ensures c.put_numbers.ensures.put)
