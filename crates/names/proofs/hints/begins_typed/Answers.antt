use mathlib.Core.Path.{◌∙◌}
use Rattle.names.proofs.FirstBytes.{begins-none, begins-some}
use Rattle.names.proofs.hints.begins_typed.Goals as goal

pub returns-then-input-lt2 : goal.returns-then-input-lt2
returns-then-input-lt2 c = begins-none c.args.input.now c.if-input-lt2.true

pub returns : goal.returns
returns c = c.is_typed.ensures ∙ begins-some c.args.input.now c.if-input-lt2.false
