-- Assumes nothing.
use native.Mathlib.Omega.{arith}
use borrow.Author.Tests.{eq-eqb, ne_eqb}
use Rattle.printing.proofs.Texts.{◌⟫◌, says-none}
use Rattle.compare.specs.Sections.{moved_text}
use Rattle.compare.proofs.sections.say_moved.Goals as goal

pub returns-then-many-eq0 : goal.returns-then-many-eq0
unfolding moved_text
returns-then-many-eq0 c = rw (eq-eqb _ _ c.if-many-eq0.true) says-none

pub say_span-requires : goal.say_span-requires
unfolding moved_text
say_span-requires c = (omega (arith, c.if-many-eq0.false), c.requires.0)

pub say_moved_now-requires : goal.say_moved_now-requires
unfolding moved_text
say_moved_now-requires c = (omega (arith, c.if-many-eq0.false), c.requires.1)

pub returns : goal.returns
unfolding moved_text
returns c = rw (ne_eqb _ _ c.if-many-eq0.false) (c.say_span.ensures ⟫ c.say.ensures ⟫ c.say_moved_now.ensures
    ⟫ c.say_moved_under.ensures)
