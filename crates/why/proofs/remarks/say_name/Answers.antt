use Rattle.printing.proofs.Texts.{◌⟫◌}
use Rattle.why.proofs.remarks.say_name.Goals as goal

pub returns-then-kind : goal.returns-then-kind
returns-then-kind c = rw c.if-kind.true (
    c.say.ensures
    ⟫ c.say_kind.ensures
    ⟫ c.say_group.ensures
    ⟫ c.say-then-kind.ensures)
