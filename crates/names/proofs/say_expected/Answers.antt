-- One text after another. Assumes nothing.
use Rattle.printing.proofs.Texts.{◌⟫◌}
use Rattle.names.proofs.say_expected.Goals as goal

pub returns : goal.returns
returns c =
    c.say_range.ensures ⟫ c.say_bracketed.ensures
