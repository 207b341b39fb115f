-- Assumes nothing.
use Rattle.std.proofs.Common.{rules}
use Rattle.printing.proofs.Texts.{said-from-start}
use Rattle.compare.proofs.Pieces.{pair-stepped}
use Rattle.compare.proofs.sections.pair_step.Goals as goal

pub say_next_pair-requires : goal.say_next_pair-requires
say_next_pair-requires c = (c.requires.0.place, c.requires.1.place)

pub one_told-next-requires : goal.one_told-next-requires
one_told-next-requires c = c.requires.0

pub one_told-other-requires : goal.one_told-other-requires
one_told-other-requires c = c.requires.1

pub returns : goal.returns
returns c = let whole = c.say_next_pair.ensures in
    let same = whole.same in
    pair-stepped _ _ c.args.c _ _ _ _ _ (said-from-start whole c.new-text.ensures.buffer c.new-text.ensures.empty (search rules)) c.one_told-next.ensures c.one_told-other.ensures
