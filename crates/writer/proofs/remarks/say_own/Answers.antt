-- Twenty are told. Assumes nothing.
use mathlib.Core.Path.{sym, ◌∙◌}
use borrow.Author.Tests.{le-leb, lt-leb}
use Rattle.printing.proofs.Texts.{◌⟫◌, says-none}
use Rattle.writer.specs.Remarks.{own_text}
use Rattle.writer.proofs.remarks.say_own.Goals as goal

pub returns-then-not-is_told : goal.returns-then-not-is_told
unfolding own_text
returns-then-not-is_told c = rw (sym c.is_told.ensures
    ∙ c.if-not-is_told.true) (rw c.kind_written.ensures at
    c.say_written.ensures)

pub returns-then-c-ge20 : goal.returns-then-c-ge20
unfolding own_text
returns-then-c-ge20 c = rw (
  sym c.is_told.ensures
      ∙ c.if-not-is_told.false,
  le-leb _ _ c.if-c-ge20.true,
) says-none

pub returns : goal.returns
unfolding own_text
returns c = rw (
  sym c.is_told.ensures
      ∙ c.if-not-is_told.false,
  lt-leb _ _ c.if-c-ge20.false,
)
    (c.say_line.ensures ⟫ c.say_words.ensures ⟫ c.say.ensures)
