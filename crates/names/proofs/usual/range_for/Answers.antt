use mathlib.Core.Path.{refl, sym, ◌∙◌}
use Rattle.names.proofs.usual.range_for.Goals as goal

pub returns-then-goes_by : goal.returns-then-goes_by
returns-then-goes_by c = rw (sym c.goes_by.ensures ∙ c.if-goes_by.true) (c.part.ensures ∙ rw c.saturating_sub.ensures refl)

pub returns : goal.returns
returns c = rw (sym c.goes_by.ensures ∙ c.if-goes_by.false) refl
