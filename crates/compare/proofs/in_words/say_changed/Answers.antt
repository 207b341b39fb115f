-- Assumes nothing.
use borrow.Author.Rules.{rules}
use Rattle.printing.proofs.Texts.{◌⟫◌}
use Rattle.compare.proofs.Wordings.{kind-there}
use Rattle.compare.specs.Values.{changed_text}
use Rattle.compare.proofs.in_words.say_changed.Goals as goal

pub detail-requires : goal.detail-requires
unfolding changed_text
detail-requires c = kind-there c.args.r.now c.requires.0

pub own_line-line-requires : goal.own_line-line-requires
unfolding changed_text
own_line-line-requires c = search rules

pub detail-requires-2 : goal.detail-requires-2
unfolding changed_text
detail-requires-2 c = kind-there c.args.s.now c.requires.1

pub own_line-other-requires : goal.own_line-other-requires
unfolding changed_text
own_line-other-requires c = search rules

pub say_values-requires : goal.say_values-requires
unfolding changed_text
say_values-requires c = (c.requires.0, c.requires.1)

pub say_figures-requires : goal.say_figures-requires
unfolding changed_text
say_figures-requires c = search rules

pub returns : goal.returns
unfolding changed_text
returns c = c.say_both.ensures ⟫ c.say_values.ensures
    ⟫ (rw (c.own_line-line.ensures, c.detail.ensures, c.own_line-other.ensures, c.detail-2.ensures) at c.say_figures.ensures)
