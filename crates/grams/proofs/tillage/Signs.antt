-- Laws of the sign of a carbon rate and of its CO2, and of their amounts. Assumes nothing.
use Rattle.std.proofs.Common.{◌≡◌, ℕ, zero, suc, ◌-◌, ◌*◌, ◌^◌, ◌≤◌, ℤ, pos, negsuc, neg_ℤ, nat_abs, refl, zero-mul, arith}
use Rattle.base.proofs.Signed.{abs-negated}
use Rattle.grams.specs.Round.{round_div}
use Rattle.grams.proofs.Round.{round-le}
use Rattle.grams.specs.CarbonRate.{exp_of, rate_of, with_sign, mg_of}
use Rattle.grams.specs.Tillage.{co2_of}

sign-abs : (z : ℤ) (n : ℕ) → nat_abs (with_sign z n) ≡ n
sign-abs (pos z) n = refl
sign-abs (negsuc z) n = abs-negated n

-- none is neither gained nor lost
round-none : (n d : ℕ) → 1 ≤ d → n ≡ 0 → round_div n d ≡ 0
round-none n d h e = let l : round_div n d ≤ 0 = round-le n d 0 h (omega arith) in omega arith

mg-gained : (lum k y : ℕ) → mg_of (pos lum) k y ≡ pos (rate_of lum k y)
unfolding mg_of
mg-gained lum k y = refl

mg-lost : (lum k y : ℕ) → mg_of (neg_ℤ (pos lum)) k y ≡ neg_ℤ (pos (rate_of lum k y))
unfolding mg_of rate_of
mg-lost zero k y =
    let e : rate_of zero k y ≡ 0 = round-none (zero * (exp_of (k * (y - 1)) - exp_of (k * y))) (10 ^ 9) (omega arith) (zero-mul _) in
    rw e refl
mg-lost (suc lum) k y = refl

gain-taken-up : (mg area : ℕ) → co2_of (pos mg) area ≡ neg_ℤ (pos (round_div (mg * area * 11) 30))
unfolding co2_of
gain-taken-up zero area = let e : round_div (zero * area * 11) 30 ≡ 0 = round-none (zero * area * 11) 30 (omega arith) (omega arith) in rw e refl
gain-taken-up (suc mg) area = refl

loss-given-off : (mg area : ℕ) → co2_of (neg_ℤ (pos mg)) area ≡ pos (round_div (mg * area * 11) 30)
unfolding co2_of
loss-given-off zero area = refl
loss-given-off (suc mg) area = refl

-- as the code puts it together, from the amount of lumCmax
module _ (lum k y area mg grams : ℕ) (z : ℤ) (f : mg ≡ rate_of lum k y) (g : grams ≡ round_div (mg * area * 11) 30) where
  pub gained-is : z ≡ pos lum → neg_ℤ (pos grams) ≡ co2_of (mg_of z k y) area
  gained-is e = rw (e, mg-gained lum k y, ← f, gain-taken-up mg area, ← g) refl

  pub lost-is : z ≡ neg_ℤ (pos lum) → pos grams ≡ co2_of (mg_of z k y) area
  lost-is e = rw (e, mg-lost lum k y, ← f, loss-given-off mg area, ← g) refl

pub mg-amount : (lum : ℤ) (k y : ℕ) → nat_abs (mg_of lum k y) ≡ rate_of (nat_abs lum) k y
unfolding mg_of
mg-amount lum k y = sign-abs lum (rate_of (nat_abs lum) k y)

pub co2-amount : (mg : ℤ) (area : ℕ) → nat_abs (co2_of mg area) ≡ round_div (nat_abs mg * area * 11) 30
unfolding co2_of
co2-amount mg area = sign-abs (neg_ℤ mg) (round_div (nat_abs mg * area * 11) 30)
