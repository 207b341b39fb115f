-- The sign and the amount. Assumes nothing.
use Rattle.printing.proofs.Texts.{◌⟫◌}
use Rattle.kilograms.specs.Kilograms.{kilograms_text}
use Rattle.kilograms.proofs.say_kilograms.Goals as goal

pub returns : goal.returns
unfolding kilograms_text
returns c = c.say_sign.ensures ⟫ rw c.digits_in.ensures at c.say_amount.ensures
