-- One text after another. Assumes nothing.
use Rattle.printing.proofs.Texts.{◌⟫◌}
use Rattle.kinds.proofs.next_pointed.Goals as goal

pub returns : goal.returns
returns c = let p1 = c in
    let p2 = p1 in
    p2.say.ensures ⟫ p1.say_pointed.ensures
