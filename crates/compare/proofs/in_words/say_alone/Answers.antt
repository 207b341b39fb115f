-- Assumes nothing.
use borrow.Author.Rules.{rules}
use Rattle.printing.proofs.Texts.{◌⟫◌}
use Rattle.compare.proofs.Wordings.{kind-there}
use Rattle.compare.specs.Values.{alone_text}
use Rattle.compare.proofs.in_words.say_alone.Goals as goal

pub detail-requires : goal.detail-requires
unfolding alone_text
detail-requires c = kind-there c.args.r.now c.requires

pub own_line-line-requires : goal.own_line-line-requires
unfolding alone_text
own_line-line-requires c = search rules

pub say_values-requires : goal.say_values-requires
unfolding alone_text
say_values-requires c = (c.requires, c.requires)

pub say_figures-requires : goal.say_figures-requires
unfolding alone_text
say_figures-requires c = search rules

pub returns : goal.returns
unfolding alone_text
returns c = c.say_numbered.ensures ⟫ c.say_values.ensures ⟫ (rw (c.own_line-line.ensures, c.detail.ensures) at c.say_figures.ensures)
