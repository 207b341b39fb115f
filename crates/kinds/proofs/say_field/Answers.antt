-- One text after another. Assumes nothing.
use Rattle.printing.proofs.Texts.{◌⟫◌}
use Rattle.kinds.proofs.say_field.Goals as goal

pub returns : goal.returns
returns c = let p1 = c in
    let p2 = p1 in
    let p3 = p2 in
    p3.say_row.ensures ⟫ p2.say_range.ensures ⟫ p1.say_about.ensures
