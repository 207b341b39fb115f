-- 20 also says the form. Assumes nothing.
use mathlib.Core.List.{append-nil}
use borrow.Author.Tests.{ne_eqb}
use Rattle.printing.proofs.Texts.{◌⟫◌}
use Rattle.names.specs.Names.{table_line, sentence_table, sentence}
use Rattle.names.proofs.say_sentence.Goals as goal

pub returns-then-code-eq20 : goal.returns-then-code-eq20
unfolding sentence
returns-then-code-eq20 c =
    rw c.if-code-eq20.true
    (rw c.if-code-eq20.true at (c.say_line.ensures ⟫ c.say.ensures ⟫ c.say_form.ensures))

pub returns : goal.returns
unfolding sentence
returns c = rw (ne_eqb _ 20 c.if-code-eq20.false, append-nil (table_line 24 _ sentence_table)) c.say_line.ensures
