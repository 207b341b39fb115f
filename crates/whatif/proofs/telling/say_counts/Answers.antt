-- The parts, one behind the other. Assumes nothing.
use Rattle.std.proofs.Common.{rules}
use Rattle.printing.proofs.Texts.{said-from-start, ◌⟫◌}
use Rattle.whatif.proofs.telling.say_counts.Goals as goal

pub returns : goal.returns
returns c = let whole = c.say_number.ensures
    ⟫ c.say.ensures
    ⟫ c.say_number-2.ensures
    ⟫ c.say-2.ensures
    ⟫ c.say_number-3.ensures
    ⟫ c.say-3.ensures in
    let same = whole.same in
    said-from-start whole c.new-text.ensures.buffer c.new-text.ensures.empty (search rules)
