-- Nothing where nothing is refused. Assumes nothing.
use borrow.Author.Tests.{eq-eqb, ne_eqb}
use Rattle.printing.proofs.Texts.{◌⟫◌, says-none}
use Rattle.last_word.specs.Remarks.{why_text}
use Rattle.last_word.proofs.say_why.Goals as goal

pub returns-then-account-ne3 : goal.returns-then-account-ne3
unfolding why_text
returns-then-account-ne3 c = rw (ne_eqb _ _ c.if-account-ne3.true) says-none

pub returns : goal.returns
unfolding why_text
returns c =
    rw (eq-eqb _ _ c.if-account-ne3.false)
    (c.say.ensures ⟫ c.say_number.ensures ⟫ c.say-2.ensures ⟫ c.say_sentence.ensures ⟫ c.say-3.ensures)
