use Rattle.printing.proofs.Texts.{◌⟫◌}
use Rattle.why.specs.Remarks.{reason_text}
use Rattle.why.proofs.remarks.say_reason.Goals as goal

pub returns : goal.returns
unfolding reason_text
returns c = c.say_where.ensures
    ⟫ c.say.ensures
    ⟫ c.say_fault.ensures
    ⟫ c.say-2.ensures
