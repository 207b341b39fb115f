use mathlib.Core.Path.{ap, ◌∙◌}
use Rattle.writer.specs.Typist.{early}
use Rattle.writer.proofs.enter.met.Goals as goal

pub returns : goal.returns
returns c = c.early.ensures ∙ ap early c.hears.ensures
