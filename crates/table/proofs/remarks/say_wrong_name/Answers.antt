-- One text after another. Assumes nothing.
use Rattle.std.proofs.Common.{rules}
use Rattle.printing.proofs.Texts.{said-from-start, ◌⟫◌}
use Rattle.table.proofs.remarks.say_wrong_name.Goals as goal

pub returns : goal.returns
returns c = let whole = c.say.ensures ⟫ c.say-2.ensures ⟫ c.say-3.ensures in
    let same = whole.same in
    said-from-start whole c.new-text.ensures.buffer c.new-text.ensures.empty (search rules)
