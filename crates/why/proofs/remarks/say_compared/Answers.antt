use Rattle.printing.proofs.Texts.{◌⟫◌}
use Rattle.why.specs.Remarks.{compared_text}
use Rattle.why.proofs.remarks.say_compared.Goals as goal

pub returns : goal.returns
unfolding compared_text
returns c = rw c.measured-i.ensures at (
    c.say_subject.ensures
    ⟫ c.say.ensures
    ⟫ c.say_measured.ensures
    ⟫ c.say-2.ensures
    ⟫ c.say_relation.ensures
    ⟫ c.say_amount.ensures)
