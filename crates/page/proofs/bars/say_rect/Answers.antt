-- Hollow or full. Assumes nothing.
use Rattle.std.proofs.Common.{◌∙◌}
use Rattle.printing.proofs.Texts.{◌⟫◌}
use Rattle.page.specs.Bars.{rect_text}
use Rattle.page.proofs.Steps.{min-lesser, diff-apart}
use Rattle.page.proofs.bars.say_rect.Goals as goal

pub returns-then-up : goal.returns-then-up
unfolding rect_text
returns-then-up c = rw c.if-up.true (rw (
  c.min.ensures ∙ min-lesser _ _,
  c.abs_diff.ensures ∙ diff-apart _ _,
) at (c.say.ensures
    ⟫ c.say_number.ensures
    ⟫ c.say-then-up.ensures
    ⟫ c.say_number-then-up.ensures
    ⟫ c.say-then-up-2.ensures))

pub returns : goal.returns
unfolding rect_text
returns c = rw c.if-up.false (rw (
  c.min-2.ensures ∙ min-lesser _ _,
  c.abs_diff-2.ensures ∙ diff-apart _ _,
) at (c.say-2.ensures
    ⟫ c.say_number-2.ensures
    ⟫ c.say-3.ensures
    ⟫ c.say_number-3.ensures
    ⟫ c.say-4.ensures))
