-- One word, and a number. Assumes nothing.
use Rattle.kilograms.proofs.lines.has_grams.Goals as goal

pub returns : goal.returns
returns c = rw (c.is_grams.ensures, c.word-second.ensures, c.word-first.ensures)
