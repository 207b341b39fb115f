-- One of three texts. Assumes nothing.
use Rattle.page.specs.Parts.{words_table, words_text}
use Rattle.page.proofs.by_source.say_words.Goals as goal

pub returns-then-not-seen : goal.returns-then-not-seen
unfolding words_table words_text
returns-then-not-seen c = rw (c.if-not-seen.true) c.say.ensures

pub returns-then-up : goal.returns-then-up
unfolding words_table words_text
returns-then-up c = rw (
  c.if-not-seen.false,
  c.if-up.true,
) c.say-then-up.ensures

pub returns : goal.returns
unfolding words_table words_text
returns c = rw (
  c.if-not-seen.false,
  c.if-up.false,
)
    (rw c.part-words.ensures at c.say-2.ensures)
