use Rattle.printing.proofs.Texts.{◌⟫◌}
use Rattle.why.specs.Remarks.{compared_text}
use Rattle.why.proofs.remarks.say_fault.Goals as goal

pub returns-in-None : goal.returns-in-None
unfolding compared_text
returns-in-None c = rw c.in-None.is
    (c.say.ensures ⟫ c.say_sentence.ensures)
