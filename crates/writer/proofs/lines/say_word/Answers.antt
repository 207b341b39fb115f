-- One text behind another. Assumes nothing.
use Rattle.writer.proofs.lines.say_word.Goals as goal

pub returns : goal.returns
returns c = rw c.word.ensures at c.say_quoted.ensures
