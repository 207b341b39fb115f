-- CO2e of CH4, N2O and grazing as a plain number: none goes round its word, and it is added as its parts are.
-- Assumes nothing.
use Prim.Native.Nat.{ℕ, ◌+◌, ◌*◌, ◌^◌, ◌%◌, ◌≤◌, ◌<◌}
use mathlib.Core.Path.{◌≡◌, ap, ◌∙◌}
use native.Mathlib.Omega.{arith}
use native.Mathlib.Nat.{mul-add, lt_of_le_of_lt}
use lib.Dec.{lit<}
use lib.IntN.{pos, ◌+ℤ◌}
use Rattle.base.specs.Signed.{signed_of}
use Rattle.base.proofs.Signed.{words-plus}
use Rattle.grams.specs.Units.{co2_word}
use Rattle.grams.specs.Farm.{co2e_of}
use Rattle.grams.proofs.Bounds.{◌⊗◌, ◌⊕◌}
use Rattle.grams.proofs.farm.Small.{co2e-grams}
use Rattle.grams.proofs.Carbon.{within_more}
use Rattle.account.specs.declared.Account.{Account}
use Rattle.account.specs.declared.Farm.{Farm}
use Rattle.account.specs.Account.{factors_of}
use Rattle.account.specs.Range.{AccountInRange}
use Rattle.account.specs.Line.{co2e_in}
use Rattle.page.specs.Bars.{plus8, no_step}
use Rattle.page.specs.Figures.{warmed, group_step}

abbrev pub plainly : Farm → ℕ → ℕ → ℕ → ℕ
plainly f x y z = f.ch4 * x + f.n2o * y + z

pub warmed-plain : (f : Farm) (x y z : ℕ) → plainly f x y z < 2 ^ 63 → warmed f x y z ≡ plainly f x y z
unfolding co2e_of
warmed-plain f x y z h =
    let e : (0 + plainly f x y z) % 2 ^ 64 ≡ plainly f x y z = omega (arith, h) in
    words-plus 0 (plainly f x y z) (omega arith) (omega (arith, h)) ∙ e

shuffle : (p q r s z g : ℕ) → p + q + (r + s) + (z + g) ≡ p + r + z + (q + s + g)
shuffle p q r s z g = omega arith

pub plain-plus : (f : Farm) (x y z u v w : ℕ) → plainly f (x + u) (y + v) (z + w) ≡ plainly f x y z + plainly f u v w
plain-plus f x y z u v w = rw (mul-add f.ch4 x u, mul-add f.n2o y v) (shuffle _ _ _ _ z w)

-- ---- of the sums of an account

module _ (a : Account) (r : AccountInRange a) where
  abbrev pub all_plain : ℕ
  all_plain = plainly a.farm a.sums.ch4 a.sums.n2o.0 a.sums.grazing.0

  pub all_most : all_plain < 2 ^ 60
  all_most =
      let n = r.started.counted.records-most in
      let x : a.sums.ch4 ≤ 4096 * 10 ^ 11 = omega (arith, r.sums.ch4, n) in
      let y : a.sums.n2o.0 ≤ 4096 * 10 ^ 10 = omega (arith, r.sums.n2o, n) in
      let z : a.sums.grazing.0 ≤ 4096 * 10 ^ 11 = omega (arith, r.sums.grazing, n) in
      lt_of_le_of_lt (r.started.farm.ch4.most ⊗ x ⊕ r.started.farm.n2o.most ⊗ y ⊕ z) (lit< tt)

  -- the step that the groups have come to
  pub step-plain : group_step a ≡ no_step + all_plain
  step-plain =
      let most = all_most in
      let e : (2 ^ 63 + all_plain) % 2 ^ 64 ≡ 2 ^ 63 + all_plain = omega (arith, most) in
      ap (plus8 no_step) (warmed-plain a.farm a.sums.ch4 a.sums.n2o.0 a.sums.grazing.0 (omega (arith, most))) ∙ e

  -- the total line's CO2e
  pub total-plain : signed_of (co2_word (co2e_in a)) ≡ signed_of a.sums.co2.0 +ℤ pos all_plain
  total-plain =
      let n = r.started.counted.records-most in
      co2e-grams
      (record {
        co2-in = within_more a.sums.co2 a.records 4096 n r.sums.co2;
        ch4-in = omega (arith, r.sums.ch4, n);
        n2o-in = omega (arith, r.sums.n2o, n);
        grazing-in = omega (arith, r.sums.grazing, n);
      })
      (factors_of a.farm) (record { ch4-most = r.started.farm.ch4.most; n2o-most = r.started.farm.n2o.most })
