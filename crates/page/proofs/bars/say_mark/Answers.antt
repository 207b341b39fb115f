-- Where a step is below zero. Assumes nothing.
use Rattle.std.proofs.Common.{le-ltb, lt-ltb}
use Rattle.printing.proofs.Texts.{◌⟫◌, says-none}
use Rattle.page.specs.Bars.{mark_text}
use Rattle.page.proofs.bars.say_mark.Goals as goal

pub returns-then-sc-ge-LOWEST_STEP : goal.returns-then-sc-ge-LOWEST_STEP
unfolding mark_text
returns-then-sc-ge-LOWEST_STEP c = rw (le-ltb _ _ c.if-sc-ge-LOWEST_STEP.true) says-none

pub returns : goal.returns
unfolding mark_text
returns c = rw (lt-ltb _ _ c.if-sc-ge-LOWEST_STEP.false) (rw c.place-z.ensures at (c.say.ensures
    ⟫ c.say_number.ensures
    ⟫ c.say-2.ensures
    ⟫ c.say_number-2.ensures
    ⟫ c.say-3.ensures))
