-- A refusal's number after its word. Assumes nothing.
use Rattle.printing.proofs.Texts.{◌⟫◌}
use Rattle.table.proofs.rows.say_state.Goals as goal

pub returns-in-Refused : goal.returns-in-Refused
returns-in-Refused c = rw c.in-Refused.is (rw c.from.ensures at (c.say-in-Refused.ensures ⟫ c.say_number.ensures))
