use Rattle.printing.proofs.Texts.{◌⟫◌}
use Rattle.salvage.proofs.remarks.say_saved.Goals as goal

pub returns : goal.returns
returns c = let p4 = c in
    let p3 = p4 in
    let p2 = p3 in
    let p1 = p2 in
    p1.say_number.ensures ⟫ p2.say.ensures ⟫ p3.say_number-2.ensures ⟫ p4.say-2.ensures
