-- One text after another. Assumes nothing.
use Rattle.printing.proofs.Texts.{◌⟫◌}
use Rattle.kinds.proofs.say_about.Goals as goal

pub returns : goal.returns
returns c = let p1 = c in
    let p2 = p1 in
    let p3 = p2 in
    let p4 = p3 in
    let p5 = p4 in
    p5.next_unit.ensures ⟫ p4.next_choices.ensures ⟫ p3.next_usual.ensures ⟫ p2.next_help.ensures ⟫ p1.say.ensures
