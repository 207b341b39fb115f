-- Assumes nothing.
use borrow.Author.Rules.{rules}
use borrow.Author.Tests.{eq-eqb, ne_eqb}
use Rattle.printing.proofs.Texts.{says-none}
use Rattle.compare.specs.Figures.{sum_text}
use Rattle.compare.proofs.figures.say_sum.Goals as goal

pub returns-then-t-eq0 : goal.returns-then-t-eq0
unfolding sum_text
returns-then-t-eq0 c = rw (eq-eqb _ _ c.if-s-eq0.true, eq-eqb _ _ c.if-t-eq0.true) says-none

pub say_only-requires : goal.say_only-requires
unfolding sum_text
say_only-requires c = search rules

pub returns-then-s-eq0 : goal.returns-then-s-eq0
unfolding sum_text
returns-then-s-eq0 c = rw (eq-eqb _ _ c.if-s-eq0.true, ne_eqb _ _ c.if-t-eq0.false) c.say_only.ensures

pub say_only-requires-then-t-eq0-2 : goal.say_only-requires-then-t-eq0-2
unfolding sum_text
say_only-requires-then-t-eq0-2 c = search rules

pub returns-then-t-eq0-2 : goal.returns-then-t-eq0-2
unfolding sum_text
returns-then-t-eq0-2 c = rw (ne_eqb _ _ c.if-s-eq0.false, eq-eqb _ _ c.if-t-eq0-2.true) c.say_only-then-t-eq0-2.ensures

pub say_two_sums-requires : goal.say_two_sums-requires
unfolding sum_text
say_two_sums-requires c = search rules

pub returns : goal.returns
unfolding sum_text
returns c = rw (ne_eqb _ _ c.if-s-eq0.false, ne_eqb _ _ c.if-t-eq0-2.false) c.say_two_sums.ensures
