use mathlib.Core.Path.{refl, sym, ◌∙◌}
use Rattle.typed_words.proofs.Amounts.{amount-parts}
use Rattle.typed_words.proofs.read_amount.Goals as goal

pub returns-then-not-places_fit : goal.returns-then-not-places_fit
returns-then-not-places_fit c =
    sym (amount-parts c.args.decimals c.args.word.now c.find-p.ensures.value refl c.behind_point-fraction.ensures ∙ rw c.if-not-places_fit.true)

pub returns-in_err-whole : goal.returns-in_err-whole
returns-in_err-whole c =
    c.from_residual.ensures
    ∙ sym (amount-parts c.args.decimals c.args.word.now c.find-p.ensures.value c.first_of.ensures c.behind_point-fraction.ensures
    ∙ rw (c.if-not-places_fit.false, ← c.number.ensures.value, c.in_err-whole.was))

pub returns-in_err-all : goal.returns-in_err-all
returns-in_err-all c =
    c.from_residual-in_err-all.ensures
    ∙ sym (amount-parts c.args.decimals c.args.word.now c.find-p.ensures.value c.first_of.ensures c.behind_point-fraction.ensures
    ∙ rw (c.if-not-places_fit.false, ← c.number.ensures.value, c.in_ok-whole.was, ← c.number-2.ensures.value, c.in_err-all.was))

pub returns : goal.returns
returns c =
    sym (amount-parts c.args.decimals c.args.word.now c.find-p.ensures.value c.first_of.ensures c.behind_point-fraction.ensures
    ∙ rw (c.if-not-places_fit.false, ← c.number.ensures.value, c.in_ok-whole.was, ← c.number-2.ensures.value, c.in_ok-all.was, c.with_zeros.ensures))
