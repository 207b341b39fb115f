-- Assumes nothing.
use Rattle.std.proofs.Common.{rules}
use Rattle.printing.proofs.Texts.{◌⟫◌, said-from-start}
use Rattle.compare.proofs.groups.last_step.Goals as goal

pub say_totals-requires : goal.say_totals-requires
say_totals-requires c = c.requires

pub returns : goal.returns
returns c = let whole = c.say_totals.ensures ⟫ c.say_last.ensures in
    let same = whole.same in
    record { said = (said-from-start whole c.new-text.ensures.buffer c.new-text.ensures.empty (search rules)); cursor = c.at_stage-d.ensures }
