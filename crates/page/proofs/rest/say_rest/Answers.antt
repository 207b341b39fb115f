-- One text after the other. Assumes nothing.
use Rattle.printing.proofs.Texts.{◌⟫◌}
use Rattle.page.specs.Parts.{rest_text}
use Rattle.page.proofs.rest.say_rest.Goals as goal

pub returns : goal.returns
unfolding rest_text
returns c = c.say_farm.ensures
    ⟫ c.say_groups_foot.ensures
    ⟫ c.say_sources.ensures
    ⟫ c.say_gas_table.ensures
    ⟫ c.say_counted.ensures
    ⟫ c.say_exact.ensures
    ⟫ c.say_foot.ensures
