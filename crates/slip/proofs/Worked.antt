-- One answer, and one worked slip to the bit.
use mathlib.Core.Path.{◌≡◌, refl, sym, ap, ◌∙◌}
use Prim.Native.Nat.{ℕ, ◌<◌, ◌^◌}
use lib.Ieee.{binary64, round, of_bits, to_bits, le, mul, div, of_int}
use lib.Ieee.Bits.{to_bits-of_bits}
use Rattle.slip.specs.Slip.{double, +0, kg_ch4, what_if, ration_in_range, change_in_range, changed_in_range, Answers}
use Rattle.slip.proofs.Positive.{slip-number}
use Rattle.slip.specs.declared.Ration.{Ration}
use Rattle.slip.specs.declared.Slip.{Slip}
use Rattle.slip.specs.declared.Change.{Change}
use Rattle.slip.specs.declared.Change.TheVariants.{Feed}

-- two answers that meet the contract are equal
pub one_answer : (r : Ration) (c : Change) (s t : Slip) → Answers r c s → Answers r c t → s ≡ t
one_answer r c s t p q = cc (p.exact, q.exact)

-- and so are their bits: two patterns of 64 bits that both read as the slip's kg are the same
pub one-pattern : (r : Ration) (c : Change) (a b : ℕ) → a < 2 ^ 64 → b < 2 ^ 64
    → of_bits binary64 a ≡ (what_if r c).kg → of_bits binary64 b ≡ (what_if r c).kg → a ≡ b
one-pattern r c a b ha hb p q =
    sym (to_bits-of_bits binary64 a ha (rw p (slip-number r c)))
    ∙ ap (to_bits binary64) (p ∙ sym q)
    ∙ to_bits-of_bits binary64 b hb (rw q (slip-number r c))

-- the positive zero's bits
pub zero_bits : to_bits binary64 +0 ≡ 0
unfolding to_bits
zero_bits = refl

-- P5's ration: 300 MJ, Ym 6.5, one head, 365 days
pub five_ration : Ration
five_ration = record { ge = double 300 1; ym = double 65 10; head = double 1 1; days = 365 }

-- with feed times 1 it gives 127.898.. kg, these bits
pub five-slip : what_if five_ration (Feed (double 1 1)) ≡ record { code = 0; ration = five_ration; kg = of_bits binary64 0x405f_f971_dabd_1140 }
unfolding what_if ration_in_range change_in_range changed_in_range kg_ch4 round five_ration mul div of_int le of_bits
five-slip = refl

-- 600 MJ twice is over 1000: 15, and the ration as it was
pub six_hundred : Ration
six_hundred = record { ge = double 600 1; ym = double 65 10; head = double 1 1; days = 365 }

pub twice-six-hundred : what_if six_hundred (Feed (double 2 1)) ≡ record { code = 15; ration = six_hundred; kg = +0 }
unfolding what_if ration_in_range change_in_range changed_in_range round six_hundred mul le
twice-six-hundred = refl
