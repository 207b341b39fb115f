use mathlib.Core.Path.{refl, ◌∙◌}
use Rattle.writer.proofs.Commas.{no-comma}
use Rattle.writer.proofs.lines.after_comma.Goals as goal

pub returns-then-p-word : goal.returns-then-p-word
returns-then-p-word c = c.rest_of.ensures ∙ no-comma _ _ _ c.find-p.ensures.value c.if-p-word.true

pub returns : goal.returns
returns c = c.rest_of-2.ensures ∙ rw c.find-p.ensures.value refl
