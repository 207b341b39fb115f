-- Blank, or a number. Assumes nothing.
use Rattle.kilograms.proofs.lines.is_right.Goals as goal

pub returns : goal.returns
returns c = rw (c.has_grams.ensures, c.word-first.ensures)
