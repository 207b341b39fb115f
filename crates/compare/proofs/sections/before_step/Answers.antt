-- Assumes nothing.
use Rattle.std.proofs.Common.{rules}
use Rattle.printing.proofs.Texts.{◌⟫◌, said-from-start}
use Rattle.compare.proofs.Pieces.{before-silent, before-told}
use Rattle.compare.proofs.sections.before_step.Goals as goal

pub open-d-requires : goal.open-d-requires
open-d-requires c = (c.requires.0.place, c.requires.1.place)

pub is_silent-requires : goal.is_silent-requires
is_silent-requires c = let o = c.open-d.ensures.opens in (o.old, o.new)

pub returns-then-is_silent : goal.returns-then-is_silent
returns-then-is_silent c = before-silent _ _ c.args.c _ _ _ c.open-d.ensures.value c.is_silent.ensures c.if-is_silent.true

pub say_moved_in-requires : goal.say_moved_in-requires
say_moved_in-requires c = c.open-d.ensures.opens

pub returns : goal.returns
returns c = let whole = c.say.ensures ⟫ c.say_moved_in.ensures in
    let same = whole.same in
    before-told _ _ c.args.c _ _ _ _ _ c.open-d.ensures.value c.is_silent.ensures c.if-is_silent.false
    (said-from-start whole c.new-text.ensures.buffer c.new-text.ensures.empty (search rules))
