-- What stands after the sign. Assumes nothing.
use mathlib.Core.Path.{sym, ◌∙◌}
use Rattle.kilograms.specs.Kilograms.{digits_in}
use Rattle.kilograms.proofs.Tests.{below-some}
use Rattle.kilograms.proofs.digits_in.Goals as goal

pub rest_of-requires : goal.rest_of-requires
unfolding digits_in
rest_of-requires c = below-some c.args.word.now (sym c.is_below.ensures ∙ c.if-is_below.true)

pub returns-then-is_below : goal.returns-then-is_below
unfolding digits_in
returns-then-is_below c = rw (sym c.is_below.ensures ∙ c.if-is_below.true) c.rest_of.ensures

pub returns : goal.returns
unfolding digits_in
returns c = rw (sym c.is_below.ensures ∙ c.if-is_below.false)
