-- Digits as they are, or filled up. Assumes nothing.
use Rattle.printing.proofs.Texts.{◌⟫◌}
use Rattle.kilograms.proofs.Threes.{amount-long, amount-short}
use Rattle.kilograms.proofs.say_amount.Goals as goal

pub returns-then-digits-ge4 : goal.returns-then-digits-ge4
returns-then-digits-ge4 c = rw (amount-long c.args.digits.now c.if-digits-ge4.true) c.say_pointed.ensures

pub returns : goal.returns
returns c =
    rw (amount-short c.args.digits.now c.if-digits-ge4.false) (
    c.say.ensures ⟫ rw c.first_of.ensures at c.say-2.ensures ⟫ c.say-3.ensures)
