-- One text after another. Assumes nothing.
use Rattle.std.proofs.Common.{rules}
use Rattle.printing.proofs.Texts.{said-from-start, ◌⟫◌}
use Rattle.table.specs.Rows.{last_text}
use Rattle.table.proofs.rows.say_last.Goals as goal

pub returns : goal.returns
unfolding last_text
returns c = let whole = c.say.ensures ⟫ c.say_number.ensures ⟫ c.say_sums.ensures ⟫ c.say-2.ensures in
    let same = whole.same in
    said-from-start whole c.new-text.ensures.buffer c.new-text.ensures.empty (search rules)
