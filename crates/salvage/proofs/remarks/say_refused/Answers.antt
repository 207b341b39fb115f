use Rattle.printing.proofs.Texts.{◌⟫◌}
use Rattle.salvage.proofs.remarks.say_refused.Goals as goal

pub returns : goal.returns
returns c = let p3 = c in
    let p2 = p3 in
    let p1 = p2 in
    p1.say.ensures ⟫ p2.say_number.ensures ⟫ p3.say-2.ensures
