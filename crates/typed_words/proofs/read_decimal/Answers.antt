use mathlib.Core.Path.{refl, sym, ◌∙◌}
use Rattle.typed_words.proofs.Amounts.{decimal-parts}
use Rattle.typed_words.proofs.read_decimal.Goals as goal

pub returns-then-not-is_decimal : goal.returns-then-not-is_decimal
returns-then-not-is_decimal c =
    sym (decimal-parts 0 c.args.s.now c.find-p.ensures.value refl c.behind_point-fraction.ensures ∙ rw c.if-not-is_decimal.true)

pub returns-in_err-whole : goal.returns-in_err-whole
returns-in_err-whole c =
    c.from_residual.ensures
    ∙ sym (decimal-parts 0 c.args.s.now c.find-p.ensures.value c.first_of.ensures c.behind_point-fraction.ensures
    ∙ rw (c.if-not-is_decimal.false, ← c.digits.ensures.value, c.in_err-whole.was))

pub returns-in_err-all : goal.returns-in_err-all
returns-in_err-all c =
    c.from_residual-in_err-all.ensures
    ∙ sym (decimal-parts 0 c.args.s.now c.find-p.ensures.value c.first_of.ensures c.behind_point-fraction.ensures
    ∙ rw (c.if-not-is_decimal.false, ← c.digits.ensures.value, c.in_ok-whole.was, ← c.digits-2.ensures.value, c.in_err-all.was))

pub returns : goal.returns
returns c =
    sym (decimal-parts 0 c.args.s.now c.find-p.ensures.value c.first_of.ensures c.behind_point-fraction.ensures
    ∙ rw (c.if-not-is_decimal.false, ← c.digits.ensures.value, c.in_ok-whole.was, ← c.digits-2.ensures.value, c.in_ok-all.was, ← c.nearest.ensures))
