-- Any class, the pig class, or a cattle class. Assumes nothing.
use mathlib.Core.Path.{refl}
use borrow.Author.Tests.{eq-eqb, ne_eqb}
use Rattle.rules.proofs.outside.serves.Goals as goal

pub returns-then-not-is_of_group : goal.returns-then-not-is_of_group
returns-then-not-is_of_group c = let g = c.is_of_group in rw (← g.ensures, c.if-not-is_of_group.true) refl

pub returns-then-row-eq-PIG : goal.returns-then-row-eq-PIG
returns-then-row-eq-PIG c = let g = c.is_of_group in
    rw (← g.ensures, c.if-not-is_of_group.false, eq-eqb _ _ c.if-row-eq-PIG.true) refl

pub returns : goal.returns
returns c = let g = c.is_of_group in
    rw (← g.ensures, c.if-not-is_of_group.false, ne_eqb _ _ c.if-row-eq-PIG.false) c.cattle_placed.ensures
