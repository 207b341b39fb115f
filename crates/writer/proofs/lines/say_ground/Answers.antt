-- By the number. Assumes nothing.
use borrow.Author.Tests.{eq-eqb, ne_eqb}
use Rattle.writer.specs.Remarks.{ground_text}
use Rattle.writer.proofs.lines.say_ground.Goals as goal

pub returns-then-refusal-eq7 : goal.returns-then-refusal-eq7
unfolding ground_text
returns-then-refusal-eq7 c = rw (eq-eqb _ _ c.if-refusal-eq7.true) (rw
    c.row_of_line-row.ensures at c.say_range.ensures)

pub returns-then-refusal-eq4 : goal.returns-then-refusal-eq4
unfolding ground_text
returns-then-refusal-eq4 c = rw (
  ne_eqb _ _ c.if-refusal-eq7.false,
  eq-eqb _ _
      c.if-refusal-eq4.true,
) (rw c.row_of_line-row.ensures
    at c.say_count.ensures)

pub returns-then-refusal-eq9 : goal.returns-then-refusal-eq9
unfolding ground_text
returns-then-refusal-eq9 c = rw (
  ne_eqb _ _ c.if-refusal-eq7.false,
  ne_eqb _ _
      c.if-refusal-eq4.false,
  eq-eqb _ _ c.if-refusal-eq9.true,
)
    c.say_days_over.ensures

pub returns-then-refusal-eq10 : goal.returns-then-refusal-eq10
unfolding ground_text
returns-then-refusal-eq10 c = rw (
  ne_eqb _ _ c.if-refusal-eq7.false,
  ne_eqb _ _
      c.if-refusal-eq4.false,
  ne_eqb _ _
      c.if-refusal-eq9.false,
  eq-eqb _ _ c.if-refusal-eq10.true,
)
    c.say_over.ensures

pub returns : goal.returns
unfolding ground_text
returns c = rw (
  ne_eqb _ _ c.if-refusal-eq7.false,
  ne_eqb _ _
      c.if-refusal-eq4.false,
  ne_eqb _ _
      c.if-refusal-eq9.false,
  ne_eqb _ _ c.if-refusal-eq10.false,
)
    c.say_sentence.ensures
