use Rattle.printing.proofs.Texts.{◌⟫◌}
use Rattle.why.proofs.remarks.say_group.Goals as goal

pub returns-then-is_of_group-group : goal.returns-then-is_of_group-group
returns-then-is_of_group-group c = rw (
  ← c.is_of_group.ensures,
  c.if-is_of_group-group.true,
) (
    c.say.ensures
    ⟫ c.say_number.ensures)
