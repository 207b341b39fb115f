-- Assumes nothing.
use borrow.Author.Rules.{rules}
use borrow.Author.Tests.{eq-eqb, ne_eqb}
use Rattle.printing.proofs.Texts.{◌⟫◌, says-none}
use Rattle.compare.specs.Figures.{single_text}
use Rattle.compare.proofs.figures.say_single.Goals as goal

pub returns-then-x-eq0 : goal.returns-then-x-eq0
unfolding single_text
returns-then-x-eq0 c = rw (eq-eqb _ _ c.if-x-eq0.true) says-none

pub say_named-requires : goal.say_named-requires
unfolding single_text
say_named-requires c = search rules

pub returns : goal.returns
unfolding single_text
returns c = rw (ne_eqb _ _ c.if-x-eq0.false) (c.say_named.ensures ⟫ c.say.ensures)
