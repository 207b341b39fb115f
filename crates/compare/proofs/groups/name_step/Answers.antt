-- Assumes nothing.
use Rattle.std.proofs.Common.{rules}
use Rattle.printing.proofs.Texts.{said-from-start}
use Rattle.compare.proofs.groups.name_step.Goals as goal

pub returns : goal.returns
returns c = let whole = c.say_book.ensures in
    let same = whole.same in
    record { said = (said-from-start whole c.new-text.ensures.buffer c.new-text.ensures.empty (search rules)); cursor = c.at_stage-d.ensures }
