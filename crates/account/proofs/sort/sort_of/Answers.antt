-- The tests of the definition, in its order. Assumes nothing.
use mathlib.Core.Path.{refl}
use borrow.Author.Tests.{eq-eqb, ne_eqb}
use Rattle.account.specs.Sorts.{sort_of}
use Rattle.account.proofs.sort.sort_of.Goals as goal

pub returns-then-row : goal.returns-then-row
unfolding sort_of
returns-then-row c = rw c.if-row.true refl

pub returns-then-row-eq-HEADING : goal.returns-then-row-eq-HEADING
unfolding sort_of
returns-then-row-eq-HEADING c = rw (c.if-row.false, eq-eqb _ _ c.if-row-eq-HEADING.true) refl

pub returns-then-row-2 : goal.returns-then-row-2
unfolding sort_of
returns-then-row-2 c = rw (c.if-row.false, ne_eqb _ _ c.if-row-eq-HEADING.false, c.if-row-2.true) refl

pub returns-then-row-eq-CLOSE : goal.returns-then-row-eq-CLOSE
unfolding sort_of
returns-then-row-eq-CLOSE c = rw (c.if-row.false, ne_eqb _ _ c.if-row-eq-HEADING.false, c.if-row-2.false, eq-eqb _ _ c.if-row-eq-CLOSE.true) refl

pub returns : goal.returns
unfolding sort_of
returns c = rw (c.if-row.false, ne_eqb _ _ c.if-row-eq-HEADING.false, c.if-row-2.false, ne_eqb _ _ c.if-row-eq-CLOSE.false) refl
