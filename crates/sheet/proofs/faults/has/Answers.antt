use mathlib.Core.Path.{sym, ◌∙◌}
use Rattle.sheet.proofs.Places.{has-as}
use Rattle.sheet.proofs.faults.has.Goals as goal

pub returns : goal.returns
returns c = c.contains.ensures.value ∙ sym (has-as c.args.b c.args.text.now)
