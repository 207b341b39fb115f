-- Where a record is the farm's. Assumes nothing.
use Rattle.std.proofs.Common.{sym, ◌∙◌}
use Rattle.printing.proofs.Texts.{◌⟫◌, says-none}
use Rattle.page.specs.Parts.{farm_text}
use Rattle.page.proofs.rest.say_farm.Goals as goal

pub returns-then-not-of_farm : goal.returns-then-not-of_farm
unfolding farm_text
returns-then-not-of_farm c = rw (sym c.of_farm.ensures ∙ c.if-not-of_farm.true) says-none

pub returns : goal.returns
unfolding farm_text
returns c = rw (sym c.of_farm.ensures ∙ c.if-not-of_farm.false)
    (rw (
      c.group_scale-sc.ensures.0,
      c.is_below.ensures,
    )
    at (c.say.ensures
    ⟫ c.say_kilograms.ensures
    ⟫ c.say_bars.ensures))
