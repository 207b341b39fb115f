-- A line with a word. Assumes nothing.
use mathlib.Core.Path.{sym, ◌∙◌}
use Rattle.printing.proofs.Texts.{◌⟫◌, says-none}
use Rattle.writer.specs.Remarks.{remark_text}
use Rattle.writer.proofs.remarks.tell_remark.Goals as goal

pub returns-then-not-has_word : goal.returns-then-not-has_word
unfolding remark_text
returns-then-not-has_word c = rw (sym c.has_word.ensures ∙ c.if-not-has_word.true) says-none

pub returns : goal.returns
unfolding remark_text
returns c = rw (sym c.has_word.ensures ∙ c.if-not-has_word.false) (rw c.early.ensures at
    (c.say_early.ensures ⟫ c.say_rest.ensures))
