-- Assumes nothing.
use Rattle.std.proofs.Common.{rules}
use Rattle.printing.proofs.Texts.{said-from-start}
use Rattle.compare.proofs.NextGroups.{added-stepped}
use Rattle.compare.proofs.groups.added_step.Goals as goal

pub alone_side-side-requires : goal.alone_side-side-requires
alone_side-side-requires c = c.requires.0

pub returns : goal.returns
returns c = let whole = c.say_title.ensures in
    let same = whole.same in
    added-stepped _ c.args.p c.args.q _ _ _ c.args.group _ _ c.at_places-d.ensures c.requires.1 c.alone_side-side.ensures
    (said-from-start whole c.new-text.ensures.buffer c.new-text.ensures.empty (search rules))
