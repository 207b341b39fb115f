use Rattle.printing.proofs.Texts.{◌⟫◌}
use Rattle.why.specs.Remarks.{closed_text}
use Rattle.why.proofs.remarks.say_closed.Goals as goal

pub returns : goal.returns
unfolding closed_text
returns c = c.say.ensures
    ⟫ c.say_after.ensures
    ⟫ c.say-2.ensures
