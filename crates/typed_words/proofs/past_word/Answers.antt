use Rattle.typed_words.proofs.past_word.Goals as goal

pub returns : goal.returns
returns c = rw (c.rest_of.ensures, c.leading.ensures.value, c.past_blanks-t.ensures)
