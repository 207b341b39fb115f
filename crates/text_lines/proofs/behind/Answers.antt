-- What is behind, or nothing. Assumes nothing.
use mathlib.Core.Path.{sym, ◌∙◌}
use lib.ListN.{drop_of_length-le}
use Rattle.base.proofs.Slices.{to_end}
use Rattle.text_lines.proofs.behind.Goals as goal

pub returns-then-s-n : goal.returns-then-s-n
returns-then-s-n c = c.at_most.ensures ∙ sym (drop_of_length-le _ c.if-s-n.true)

pub returns : goal.returns
returns c = rw to_end
