-- One text after another. Assumes nothing.
use Rattle.printing.proofs.Texts.{◌⟫◌}
use Rattle.writer.proofs.lines.say_shares.Goals as goal

pub returns : goal.returns
returns c = rw (c.sum-2.ensures, c.sum.ensures) at (c.say.ensures ⟫ c.say_pointed.ensures)
