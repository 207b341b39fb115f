-- One text after another. Assumes nothing.
use Rattle.printing.proofs.Texts.{◌⟫◌}
use Rattle.kinds.proofs.say_range.Goals as goal

pub returns : goal.returns
returns c = let p1 = c in
    let p2 = p1 in
    let p3 = p2 in
    let p4 = p3 in
    let p5 = p4 in
    rw (← p5.decimals-d.ensures.value, ← p1.highest.ensures, ← p2.lowest.ensures) (p5.next_number.ensures
    ⟫ p4.next_label.ensures
    ⟫ p3.next_number-2.ensures
    ⟫ p2.next_pointed.ensures
    ⟫ p1.next_pointed-2.ensures)
