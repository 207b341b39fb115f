use Rattle.typed_words.proofs.first_word.Goals as goal

pub returns : goal.returns
returns c = rw (c.first_of.ensures, c.leading.ensures.value, c.past_blanks-t.ensures)
