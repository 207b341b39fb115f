-- Assumes nothing.
use mathlib.Core.Path.{sym, ◌∙◌}
use borrow.Author.Rules.{rules}
use Rattle.compare.specs.Sections.{last_text}
use Rattle.compare.proofs.groups.say_last.Goals as goal

pub alike_on-requires : goal.alike_on-requires
unfolding last_text
alike_on-requires c = search rules

pub returns-then-alike_on : goal.returns-then-alike_on
unfolding last_text
returns-then-alike_on c = rw (sym c.alike_on.ensures ∙ c.if-alike_on.true) c.say.ensures

pub same_each-requires : goal.same_each-requires
unfolding last_text
same_each-requires c = search rules

pub returns-then-same_each : goal.returns-then-same_each
unfolding last_text
returns-then-same_each c = rw (sym c.alike_on.ensures ∙ c.if-alike_on.false, sym c.same_each.ensures ∙ c.if-same_each.true)
    c.say-then-same_each.ensures

pub returns : goal.returns
unfolding last_text
returns c = rw (sym c.alike_on.ensures ∙ c.if-alike_on.false, sym c.same_each.ensures ∙ c.if-same_each.false) c.say-2.ensures
