-- One after the other. Assumes nothing.
use Rattle.printing.proofs.Texts.{◌⟫◌}
use Rattle.retype.proofs.say_refusal.Goals as goal

pub returns : goal.returns
returns c = let e1 = c.say.ensures in
    let e2 = c.say_three.ensures in
    let e3 = c.say-2.ensures in
    let e4 = c.say_sentence.ensures in
    e1 ⟫ e2 ⟫ e3 ⟫ e4 ⟫ c.say-3.ensures
