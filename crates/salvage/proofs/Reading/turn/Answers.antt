use mathlib.Core.Path.{refl}
use Rattle.salvage.proofs.OneTurn.{turned-round, ends-here, next-so, goes_on}
use Rattle.salvage.proofs.Reading.turn.Goals as goal

pub returns-then-v-a : goal.returns-then-v-a
returns-then-v-a c =
    let test = rw (turned-round _ _ c.is_none.ensures) at c.if-v-a.true in
    rw c.ended.ensures (ends-here _ _ _ c.requires.0 c.see-v.ensures test)

pub returns-in-None : goal.returns-in-None
returns-in-None c =
    let test = rw (turned-round _ _ c.is_none.ensures) at c.if-v-a.false in
    let o = c.requires.0 in
    let y = c.see-v.ensures in
    goes_on _ _ _ o y test _ refl refl
    (next-so _ _ _ o y test _ _ _ (rw c.in-None.is) c.lost_by-lost.ensures c.heading_by-heading.ensures)

pub returns-in-Some : goal.returns-in-Some
returns-in-Some c =
    let test = rw (turned-round _ _ c.is_none.ensures) at c.if-v-a.false in
    let o = c.requires.0 in
    let y = c.see-v.ensures in
    goes_on _ _ _ o y test _ refl refl
    (next-so _ _ _ o y test _ _ _ (rw c.in-Some.is) c.lost_by-lost.ensures c.heading_by-heading.ensures)
