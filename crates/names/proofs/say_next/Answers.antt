-- A comma, then the name. Assumes nothing.
use Rattle.printing.proofs.Texts.{◌⟫◌}
use Rattle.names.proofs.say_next.Goals as goal

pub returns : goal.returns
returns c = c.say.ensures ⟫ c.say_kind.ensures
