-- Assumes nothing.
use borrow.Author.Tests.{eq-eqb, ne_eqb}
use Rattle.printing.proofs.Texts.{◌⟫◌}
use mathlib.Core.List.{append-nil}
use Rattle.compare.proofs.in_words.say_both.Goals as goal

pub returns-then-i-j : goal.returns-then-i-j
returns-then-i-j c = rw (eq-eqb _ _ c.if-i-j.true, append-nil) (c.say.ensures ⟫ c.say_number.ensures)

pub returns : goal.returns
returns c = rw (ne_eqb _ _ c.if-i-j.false) (c.say.ensures ⟫ c.say_number.ensures ⟫ c.say-2.ensures ⟫ c.say_number-2.ensures)
