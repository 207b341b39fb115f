-- Assumes nothing.
use borrow.Author.Rules.{rules}
use borrow.Author.Tests.{eq-eqb, ne_eqb}
use Rattle.printing.proofs.Texts.{◌⟫◌, says-none}
use Rattle.compare.specs.Figures.{figure_text}
use Rattle.compare.proofs.figures.say_figure.Goals as goal

pub say_single-requires : goal.say_single-requires
unfolding figure_text
say_single-requires c = search rules

pub returns-then-alone : goal.returns-then-alone
unfolding figure_text
returns-then-alone c = rw c.if-alone.true c.say_single.ensures

pub returns-then-x-y : goal.returns-then-x-y
unfolding figure_text
returns-then-x-y c = rw (c.if-alone.false, eq-eqb _ _ c.if-x-y.true) says-none

pub say_named-requires : goal.say_named-requires
unfolding figure_text
say_named-requires c = search rules

pub say_now-requires : goal.say_now-requires
unfolding figure_text
say_now-requires c = search rules

pub returns : goal.returns
unfolding figure_text
returns c = rw (c.if-alone.false, ne_eqb _ _ c.if-x-y.false) (c.say_named.ensures ⟫ c.say_now.ensures ⟫ c.say.ensures)
