use mathlib.Core.Path.{sym, ◌∙◌}
use borrow.Author.Tests.{eq-eqb, ne_eqb}
use Rattle.names.specs.Hints.{looks_like}
use Rattle.names.proofs.hints.look.Goals as goal

pub returns-then-input-eq0 : goal.returns-then-input-eq0
unfolding looks_like
returns-then-input-eq0 c = rw (eq-eqb _ _ c.if-input-eq0.true)

pub returns-then-not-begins_typed : goal.returns-then-not-begins_typed
unfolding looks_like
returns-then-not-begins_typed c = rw (ne_eqb _ _ c.if-input-eq0.false, sym c.begins_typed.ensures ∙ c.if-not-begins_typed.true)

pub returns-then-begins_sheet : goal.returns-then-begins_sheet
unfolding looks_like
returns-then-begins_sheet c = rw (
  ne_eqb _ _ c.if-input-eq0.false,
  sym c.begins_typed.ensures ∙ c.if-not-begins_typed.false,
  sym c.begins_sheet.ensures ∙ c.if-begins_sheet.true,
)

pub returns : goal.returns
unfolding looks_like
returns c = rw (
  ne_eqb _ _ c.if-input-eq0.false,
  sym c.begins_typed.ensures ∙ c.if-not-begins_typed.false,
  sym c.begins_sheet.ensures ∙ c.if-begins_sheet.false,
)
