-- Nothing, or kilograms. Assumes nothing.
use Rattle.std.proofs.Common.{eq-eqb, ne_eqb}
use Rattle.printing.proofs.Texts.{says-none}
use Rattle.page.specs.Text.{figure_text}
use Rattle.page.proofs.text.say_figure.Goals as goal

pub returns-then-w-eq0 : goal.returns-then-w-eq0
unfolding figure_text
returns-then-w-eq0 c = rw (eq-eqb _ _ c.if-w-eq0.true) says-none

pub returns : goal.returns
unfolding figure_text
returns c = rw (ne_eqb _ _ c.if-w-eq0.false) c.say_kilograms.ensures
