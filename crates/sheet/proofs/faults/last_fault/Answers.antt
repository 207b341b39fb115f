-- By the tests. Assumes nothing.
use mathlib.Core.Path.{refl, sym, ◌∙◌}
use borrow.Author.Tests.{eq-eqb, ne_eqb}
use Rattle.sheet.specs.Faults.{last_fault}
use Rattle.sheet.proofs.Places.{feed-same, end_same}
use Rattle.sheet.proofs.faults.last_fault.Goals as goal

pub returns-then-formed-byte : goal.returns-then-formed-byte
unfolding last_fault
returns-then-formed-byte c = rw (sym (feed-same c.read_cell-k.ensures c.is_formed-formed.ensures c.byte.ensures) ∙ c.if-formed-byte.true) refl

pub returns-then-formed-k : goal.returns-then-formed-k
unfolding last_fault
returns-then-formed-k c = rw (
  sym (feed-same c.read_cell-k.ensures c.is_formed-formed.ensures c.byte.ensures) ∙ c.if-formed-byte.false,
  sym (end_same c.read_cell-k.ensures c.is_formed-formed.ensures) ∙ c.if-formed-k.true,
) refl

pub returns-then-c-eq0 : goal.returns-then-c-eq0
unfolding last_fault
returns-then-c-eq0 c = rw (
  sym (feed-same c.read_cell-k.ensures c.is_formed-formed.ensures c.byte.ensures) ∙ c.if-formed-byte.false,
  sym (end_same c.read_cell-k.ensures c.is_formed-formed.ensures) ∙ c.if-formed-k.false,
  eq-eqb _ 0 c.if-c-eq0.true,
) refl

pub returns : goal.returns
unfolding last_fault
returns c = rw (
  sym (feed-same c.read_cell-k.ensures c.is_formed-formed.ensures c.byte.ensures) ∙ c.if-formed-byte.false,
  sym (end_same c.read_cell-k.ensures c.is_formed-formed.ensures) ∙ c.if-formed-k.false,
  ne_eqb _ 0 c.if-c-eq0.false,
) refl
