-- One after the other. Assumes nothing.
use Rattle.printing.proofs.Texts.{◌⟫◌}
use Rattle.retype.proofs.Steps.{three_said}
use Rattle.retype.proofs.say_three.Goals as goal

pub returns : goal.returns
returns c = let e1 = c.say_number.ensures in
    let e2 = c.say.ensures in
    let e3 = c.say_number-2.ensures in
    let e4 = c.say-2.ensures in
    three_said c.args.a c.args.b c.args.c
    (e1 ⟫ e2 ⟫ e3 ⟫ e4 ⟫ c.say_number-3.ensures)
