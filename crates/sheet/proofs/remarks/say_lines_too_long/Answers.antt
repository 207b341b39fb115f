use Rattle.std.proofs.Common.{rules}
use Rattle.printing.proofs.Texts.{said-from-start, ◌⟫◌}
use Rattle.sheet.proofs.remarks.say_lines_too_long.Goals as goal

pub returns : goal.returns
returns c = let whole = c.say.ensures ⟫ c.say_most.ensures in
    let same = whole.same in
    said-from-start whole c.new-text.ensures.buffer c.new-text.ensures.empty (search rules)
