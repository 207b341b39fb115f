-- Assumes nothing.
use Rattle.std.proofs.Common.{rules}
use Rattle.printing.proofs.Texts.{said-from-start}
use Rattle.compare.proofs.Pieces.{old-stepped}
use Rattle.compare.proofs.sections.old_step.Goals as goal

pub say_next_alone-requires : goal.say_next_alone-requires
say_next_alone-requires c = c.requires.place

pub one_told-next-requires : goal.one_told-next-requires
one_told-next-requires c = c.requires

pub returns : goal.returns
returns c = let whole = c.say_next_alone.ensures in
    let same = whole.same in
    old-stepped _ c.args.c _ _ _ _ (said-from-start whole c.new-text.ensures.buffer c.new-text.ensures.empty (search rules)) c.one_told-next.ensures
