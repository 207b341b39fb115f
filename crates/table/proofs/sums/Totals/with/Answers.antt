-- A closed book, or another. Assumes nothing.
use Rattle.std.proofs.Common.{sym, refl, ◌∙◌}
use Rattle.table.specs.Sums.{totals_with}
use Rattle.table.proofs.sums.Totals.with.Goals as goal

pub returns-then-not-is_closed : goal.returns-then-not-is_closed
unfolding totals_with
returns-then-not-is_closed c = rw (sym c.is_closed.ensures ∙ c.if-not-is_closed.true) refl

pub returns : goal.returns
unfolding totals_with
returns c = rw (sym c.is_closed.ensures ∙ c.if-not-is_closed.false, c.one_more.ensures, c.plus_each-next.ensures) refl
