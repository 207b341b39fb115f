-- Assumes nothing.
use borrow.Author.Tests.{eq-eqb, ne_eqb}
use Rattle.printing.proofs.Texts.{says-none}
use Rattle.compare.proofs.sections.say_moved_now.Goals as goal

pub returns-then-i-j : goal.returns-then-i-j
returns-then-i-j c = rw (eq-eqb _ _ c.if-i-j.true) says-none

pub say_span-requires : goal.say_span-requires
say_span-requires c = c.requires

pub returns : goal.returns
returns c = rw (ne_eqb _ _ c.if-i-j.false) c.say_span.ensures
