-- Assumes nothing.
use Rattle.std.proofs.Common.{rules}
use Rattle.printing.proofs.Texts.{◌⟫◌, said-from-start}
use Rattle.compare.proofs.Pieces.{tail-stepped}
use Rattle.compare.proofs.sections.tail_step.Goals as goal

pub say_subtotals-requires : goal.say_subtotals-requires
say_subtotals-requires c = (c.requires.0, c.requires.1)

pub returns : goal.returns
returns c = let whole = c.say_others.ensures ⟫ c.say_subtotals.ensures in
    let same = whole.same in
    tail-stepped _ _ c.args.c _ _ _ _ (said-from-start whole c.new-text.ensures.buffer c.new-text.ensures.empty (search rules)) c.at_places-d.ensures
