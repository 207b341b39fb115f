use Rattle.printing.proofs.Texts.{◌⟫◌}
use Rattle.why.proofs.remarks.say_measured.Goals as goal

pub returns : goal.returns
returns c = c.say_amount.ensures
    ⟫ c.say_unit.ensures
