-- Assumes nothing.
use Rattle.printing.proofs.Texts.{◌⟫◌}
use Rattle.compare.proofs.Wordings.{change-below, change-above}
use Rattle.compare.proofs.figures.say_change.Goals as goal

pub returns-then-new-old : goal.returns-then-new-old
returns-then-new-old c = rw (change-below c.args.f c.args.x c.args.y _ _ c.raised-old.ensures c.raised-new.ensures c.if-new-old.true)
    (c.say.ensures ⟫ c.say_pointed.ensures)

pub returns : goal.returns
returns c = rw (change-above c.args.f c.args.x c.args.y _ _ c.raised-old.ensures c.raised-new.ensures c.if-new-old.false)
    (c.say-2.ensures ⟫ c.say_pointed-2.ensures)
