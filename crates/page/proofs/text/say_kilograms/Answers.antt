-- A minus sign and the amount, or the amount. Assumes nothing.
use Rattle.std.proofs.Common.{◌≡◌, ◌-◌, ◌^◌, sym, ◌∙◌, arith, leb-true}
use Rattle.printing.proofs.Texts.{◌⟫◌}
use Rattle.page.specs.Text.{kilograms}
use Rattle.page.proofs.text.say_kilograms.Goals as goal

pub returns-then-is_below : goal.returns-then-is_below
unfolding kilograms
returns-then-is_below c =
    let below = sym c.is_below.ensures ∙ c.if-is_below.true in
    let e : c.wrapping_neg.result ≡ 2 ^ 64 - c.args.w = omega (arith, leb-true 9223372036854775808 c.args.w below, c.wrapping_neg.ensures) in
    rw below (c.say.ensures ⟫ rw e at c.say_amount.ensures)

pub returns : goal.returns
unfolding kilograms
returns c = rw (sym c.is_below.ensures ∙ c.if-is_below.false) c.say_amount-2.ensures
