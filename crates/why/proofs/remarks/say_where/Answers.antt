use Rattle.printing.proofs.Texts.{◌⟫◌}
use Rattle.why.specs.Remarks.{where_text}
use Rattle.why.proofs.remarks.say_where.Goals as goal

pub returns : goal.returns
unfolding where_text
returns c = c.say.ensures
    ⟫ c.say_number.ensures
    ⟫ c.say_name.ensures
