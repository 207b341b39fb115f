-- Assumes nothing.
use mathlib.Core.Path.{sym, ◌∙◌}
use borrow.Author.Rules.{rules}
use borrow.Author.Tests.{eq-eqb, ne_eqb}
use Rattle.printing.proofs.Texts.{◌⟫◌, says-none}
use Rattle.compare.proofs.Wordings.{kind-there}
use Rattle.compare.specs.Values.{pair_text}
use Rattle.compare.proofs.in_words.say_pair.Goals as goal

pub same-requires : goal.same-requires
unfolding pair_text
same-requires c = search rules

pub returns-then-same : goal.returns-then-same
unfolding pair_text
returns-then-same c = rw (sym c.same.ensures ∙ c.if-same.true) says-none

pub row_at-requires : goal.row_at-requires
unfolding pair_text
row_at-requires c = kind-there c.args.r.now c.requires.0

pub row_at-requires-2 : goal.row_at-requires-2
unfolding pair_text
row_at-requires-2 c = kind-there c.args.s.now c.requires.1

pub say_changed-requires : goal.say_changed-requires
unfolding pair_text
say_changed-requires c = (c.requires.0, c.requires.1)

pub returns-then-row_at : goal.returns-then-row_at
unfolding pair_text
returns-then-row_at c = rw (sym c.same.ensures ∙ c.if-same.false, eq-eqb _ _ (sym c.row_at.ensures ∙ c.if-row_at.true ∙ c.row_at-2.ensures))
    c.say_changed.ensures

pub say_alone-requires : goal.say_alone-requires
unfolding pair_text
say_alone-requires c = c.requires.0

pub say_alone-requires-2 : goal.say_alone-requires-2
unfolding pair_text
say_alone-requires-2 c = c.requires.1

pub returns : goal.returns
unfolding pair_text
returns c = rw (sym c.same.ensures ∙ c.if-same.false, ne_eqb _ _ (λ z. c.if-row_at.false (c.row_at.ensures ∙ z ∙ sym c.row_at-2.ensures)))
    (c.say_alone.ensures ⟫ c.say_alone-2.ensures)
