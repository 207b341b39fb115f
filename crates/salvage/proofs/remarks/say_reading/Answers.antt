use borrow.Author.Tests.{ne_eqb}
use Rattle.printing.proofs.Texts.{◌⟫◌}
use Rattle.salvage.proofs.remarks.say_reading.Goals as goal

pub returns : goal.returns
returns c = let p3 = c in
    let p2 = p3 in
    let p1 = p2 in
    rw (ne_eqb _ _ p1.if-end-eq0.false) (p1.say_place.ensures ⟫ p2.say_ending.ensures ⟫ p3.say_unread.ensures)
