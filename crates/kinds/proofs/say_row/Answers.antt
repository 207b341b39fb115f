-- One text after another. Assumes nothing.
use Rattle.printing.proofs.Texts.{◌⟫◌}
use Rattle.kinds.proofs.say_row.Goals as goal

pub returns : goal.returns
returns c = let p1 = c in
    let p2 = p1 in
    let p3 = p2 in
    let p4 = p3 in
    rw (← p2.version_of.ensures, ← p3.kind_of.ensures) (p4.say_number.ensures
    ⟫ p3.next_number.ensures
    ⟫ p2.next_number-2.ensures
    ⟫ p1.next_kind.ensures)
