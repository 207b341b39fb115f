-- Assumes nothing.
use mathlib.Core.Path.{sym, ◌∙◌}
use borrow.Author.Rules.{rules}
use Rattle.printing.proofs.Texts.{◌⟫◌, says-none}
use Rattle.compare.specs.Figures.{two_sums_text}
use Rattle.compare.proofs.figures.say_two_sums.Goals as goal

pub same-requires : goal.same-requires
unfolding two_sums_text
same-requires c = search rules

pub returns-then-same : goal.returns-then-same
unfolding two_sums_text
returns-then-same c = rw (sym c.same.ensures ∙ c.if-same.true) says-none

pub say_figures-requires : goal.say_figures-requires
unfolding two_sums_text
say_figures-requires c = search rules

pub returns : goal.returns
unfolding two_sums_text
returns c = rw (sym c.same.ensures ∙ c.if-same.false) (c.say.ensures ⟫ c.say-2.ensures ⟫ c.say_figures.ensures)
