-- The byte is looked for in all of the slice. Assumes nothing.
use Rattle.text_lines.proofs.before_byte.Goals as goal

pub returns : goal.returns
returns c = rw (c.at_most.ensures, c.find.ensures.value)
