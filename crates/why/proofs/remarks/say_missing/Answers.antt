use Rattle.printing.proofs.Texts.{◌⟫◌}
use Rattle.why.specs.Remarks.{missing_text}
use Rattle.why.proofs.remarks.say_missing.Goals as goal

pub returns : goal.returns
unfolding missing_text
returns c = c.say.ensures
    ⟫ c.say_number.ensures
    ⟫ c.say-2.ensures
