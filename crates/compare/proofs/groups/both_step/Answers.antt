-- Assumes nothing.
use Rattle.std.proofs.Common.{rules}
use Rattle.printing.proofs.Texts.{◌⟫◌, said-from-start}
use Rattle.compare.proofs.NextGroups.{both-silent, both_told}
use Rattle.compare.proofs.groups.both_step.Goals as goal

pub same_first-under-requires : goal.same_first-under-requires
same_first-under-requires c = (c.requires.0, c.requires.1)

pub open_both-d-requires : goal.open_both-d-requires
open_both-d-requires c = (c.requires.0, c.requires.1)

pub is_silent-requires : goal.is_silent-requires
is_silent-requires c = let o = c.open_both-d.ensures.opens in (o.old, o.new)

pub returns-then-is_silent : goal.returns-then-is_silent
returns-then-is_silent c = both-silent _ _ c.args.p c.args.q _ _ _ _ c.same_first-under.ensures c.open_both-d.ensures.value c.is_silent.ensures
    c.if-is_silent.true

pub say_next_pair-requires : goal.say_next_pair-requires
say_next_pair-requires c = (c.requires.0, c.requires.1)

pub say_moved_in-requires : goal.say_moved_in-requires
say_moved_in-requires c = c.open_both-d.ensures.opens

pub returns : goal.returns
returns c = let whole = c.say_title.ensures ⟫ c.say_next_pair.ensures ⟫ c.say_moved_in.ensures in
    let same = whole.same in
    both_told _ _ c.args.p c.args.q _ _ _ _ c.same_first-under.ensures c.open_both-d.ensures.value c.is_silent.ensures _ _ c.args.group
    c.if-is_silent.false c.requires.2 (said-from-start whole c.new-text.ensures.buffer c.new-text.ensures.empty (search rules))
