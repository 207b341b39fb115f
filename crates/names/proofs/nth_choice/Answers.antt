use mathlib.Core.Path.{refl, ◌∙◌}
use Rattle.names.proofs.nth_choice.Goals as goal

pub returns : goal.returns
returns c = c.word.ensures ∙ rw (c.part.ensures, c.saturating_sub.ensures) refl
