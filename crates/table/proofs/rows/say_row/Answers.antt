-- One text after another. Assumes nothing.
use Rattle.std.proofs.Common.{rules}
use Rattle.printing.proofs.Texts.{said-from-start, ◌⟫◌}
use Rattle.table.specs.Rows.{row_text}
use Rattle.table.proofs.rows.say_row.Goals as goal

pub returns : goal.returns
unfolding row_text
returns c = let whole = c.say.ensures
    ⟫ c.say_farm.ensures
    ⟫ c.say-2.ensures
    ⟫ c.say_state.ensures
    ⟫ c.say-3.ensures
    ⟫ c.say_records.ensures
    ⟫ c.say_figures_of.ensures in
    let same = whole.same in
    said-from-start whole c.new-text.ensures.buffer c.new-text.ensures.empty (search rules)
