-- A number, a choice, or a word after the last field. Assumes nothing.
use mathlib.Core.Path.{sym, ◌∙◌}
use borrow.Author.Rules.{rules}
use Rattle.writer.proofs.TypedLines.{not-read, read-value}
use Rattle.writer.proofs.typed_line.read_value.Goals as goal

pub returns-then-not-has_field : goal.returns-then-not-has_field
returns-then-not-has_field c = not-read _ _ _ (sym c.has_field.ensures ∙ c.if-not-has_field.true)

pub returns : goal.returns
returns c = read-value _ _ _ (sym c.has_field.ensures
    ∙ c.if-not-has_field.false) (rw c.decimals.ensures.value at c.read_amount-number.ensures)
    (search rules)
