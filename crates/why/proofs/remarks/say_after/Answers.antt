use Rattle.printing.proofs.Texts.{◌⟫◌}
use Rattle.why.proofs.remarks.say_after.Goals as goal

pub returns : goal.returns
returns c = let start = c in rw
    (start.if-not-more.false) (
    c.say.ensures
    ⟫ c.say_number.ensures
    ⟫ c.say-2.ensures)
