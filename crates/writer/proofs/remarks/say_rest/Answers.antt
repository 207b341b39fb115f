-- A line that ends a run. Assumes nothing.
use mathlib.Core.Path.{sym, ◌∙◌}
use Rattle.printing.proofs.Texts.{◌⟫◌, says-none}
use Rattle.writer.proofs.remarks.say_rest.Goals as goal

pub returns-then-goes_on : goal.returns-then-goes_on
returns-then-goes_on c = rw (sym c.goes_on.ensures ∙ c.if-goes_on.true) says-none

pub returns : goal.returns
returns c = rw (sym c.goes_on.ensures ∙ c.if-goes_on.false) (rw c.run_ended.ensures at
    (c.say_run.ensures ⟫ c.say_own.ensures))
