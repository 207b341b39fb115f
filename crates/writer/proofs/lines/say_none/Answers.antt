-- By what the word is. Assumes nothing.
use mathlib.Core.Path.{sym, ◌∙◌}
use borrow.Author.Tests.{eq-eqb, ne_eqb}
use Rattle.printing.proofs.Texts.{◌⟫◌}
use Rattle.writer.specs.Remarks.{none_text}
use Rattle.writer.proofs.lines.say_none.Goals as goal

pub returns-then-decimals-eq0 : goal.returns-then-decimals-eq0
unfolding none_text
returns-then-decimals-eq0 c = rw (eq-eqb _ _ (sym c.decimals-decimals.ensures.value
    ∙ c.if-decimals-eq0.true)) c.say.ensures

pub returns-then-is_number : goal.returns-then-is_number
unfolding none_text
returns-then-is_number c = rw (
  ne_eqb _ _ (λ q. c.if-decimals-eq0.false
      (c.decimals-decimals.ensures.value ∙ q)),
  sym c.is_number.ensures
      ∙ c.if-is_number.true,
) (rw c.decimals-decimals.ensures.value at
    (c.say-then-is_number.ensures ⟫ c.say_number.ensures))

pub returns-then-has_comma : goal.returns-then-has_comma
unfolding none_text
returns-then-has_comma c = rw (
  ne_eqb _ _ (λ q. c.if-decimals-eq0.false
      (c.decimals-decimals.ensures.value
      ∙ q)),
  sym c.is_number.ensures
      ∙ c.if-is_number.false,
  sym (rw
      c.decimals-decimals.ensures.value at
      c.has_comma.ensures)
      ∙ c.if-has_comma.true,
) c.say-then-has_comma.ensures

pub returns : goal.returns
unfolding none_text
returns c = rw (
  ne_eqb _ _ (λ q. c.if-decimals-eq0.false
      (c.decimals-decimals.ensures.value
      ∙ q)),
  sym c.is_number.ensures
      ∙ c.if-is_number.false,
  sym (rw
      c.decimals-decimals.ensures.value at
      c.has_comma.ensures)
      ∙ c.if-has_comma.false,
) c.say-2.ensures
