use Rattle.compare.proofs.in_words.say_word.Goals as goal

pub returns-then-new : goal.returns-then-new
returns-then-new c = rw c.if-new.true c.say.ensures

pub returns : goal.returns
returns c = rw c.if-new.false c.say-2.ensures
