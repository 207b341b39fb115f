-- By the place of the wrong word. Assumes nothing.
use borrow.Author.Tests.{eq-eqb, ne_eqb}
use Rattle.writer.specs.Remarks.{unread_text}
use Rattle.writer.proofs.lines.say_unread.Goals as goal

pub returns-then-place-eq0 : goal.returns-then-place-eq0
unfolding unread_text
returns-then-place-eq0 c = rw (eq-eqb _ _ c.if-place-eq0.true) c.say.ensures

pub returns-then-place-eq1 : goal.returns-then-place-eq1
unfolding unread_text
returns-then-place-eq1 c = rw (ne_eqb _ _ c.if-place-eq0.false, eq-eqb _ _ c.if-place-eq1.true)
    c.say_no_kind.ensures

pub returns : goal.returns
unfolding unread_text
returns c = rw (
  ne_eqb _ _ c.if-place-eq0.false,
  ne_eqb _ _
      c.if-place-eq1.false,
) (rw c.row_of_line-row.ensures at
    c.say_no_value.ensures)
