use Rattle.salvage.specs.Lines.{words_for}
use Rattle.salvage.proofs.Reading.say_words.Goals as goal

pub returns-then-self-is_of_group : goal.returns-then-self-is_of_group
unfolding words_for
returns-then-self-is_of_group c = let i = c in
    let under = rw i.is_of_group.ensures at i.if-self-is_of_group.true in
    rw under c.say_heading.ensures

pub returns : goal.returns
unfolding words_for
returns c = let i = c in
    let under = rw i.is_of_group.ensures at i.if-self-is_of_group.false in
    rw under c.say_sentence.ensures
