use Rattle.typed_words.proofs.past_blanks.Goals as goal

pub returns : goal.returns
returns c = rw (c.rest_of.ensures, c.leading.ensures.value)
