-- A choice by its word. Assumes nothing.
use mathlib.Core.Path.{sym, ◌∙◌}
use Rattle.names.proofs.say_value.Goals as goal

pub returns-then-is_choice : goal.returns-then-is_choice
returns-then-is_choice c = rw (sym c.is_choice.ensures ∙ c.if-is_choice.true) c.say_choice.ensures

pub returns : goal.returns
returns c =
    rw (sym c.is_choice.ensures ∙ c.if-is_choice.false)
    (rw c.decimals-d.ensures.value at c.say_pointed.ensures)
