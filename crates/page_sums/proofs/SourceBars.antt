-- The rows of the sources: CO2e of each as a number, and the cascade of the six that only rise before tillage, which is the last.
-- Assumes nothing.
use Prim.Native.Nat.{ℕ, ◌+◌, ◌*◌, ◌^◌, ◌%◌, ◌≤◌, ◌<◌}
use mathlib.Core.Path.{◌≡◌, refl, sym, ap, ◌∙◌}
use mathlib.Core.List.{List, [], ◌∷◌}
use native.Mathlib.Omega.{arith}
use lib.IntN.{pos, nat_abs, ◌+ℤ◌}
use Rattle.base.specs.Signed.{signed_of}
use Rattle.base.proofs.Signed.{signed_word, words-plus, abs-plus}
use Rattle.account.specs.declared.Account.{Account}
use Rattle.account.specs.declared.Farm.{Farm}
use Rattle.page.specs.declared.Sum.{Sum}
use Rattle.page.specs.Bars.{plus8, no_step}
use Rattle.page.specs.Figures.{warmed}
use Rattle.page_sums.specs.Tables.{Bar, sum_by}
use Rattle.page_sums.proofs.Columns.{signed-plain, Grows, grows-sum}
use Rattle.page_sums.proofs.Plain.{plainly, warmed-plain, plain-plus, all_plain, all_most}
use Rattle.page_sums.proofs.SourceWalk.{seven, Made}

-- ---- a cascade of words

-- the bars of some CO2e, one after the other from a step on, and the step that they come to
abbrev pub bars_from : ℕ → List ℕ → List Bar
bars_from from [] = []
bars_from from (e ∷ es) = record { co2e = e; from = from; to = plus8 from e } ∷ bars_from (plus8 from e) es

abbrev pub end_from : ℕ → List ℕ → ℕ
end_from from [] = from
end_from from (e ∷ es) = end_from (plus8 from e) es

pub grows_from : (from : ℕ) (es : List ℕ) → 2 ^ 63 ≤ from → from + sum_by (λ (n : ℕ). n) es < 2 ^ 64
    → Grows from (bars_from from es) (end_from from es)
unfolding sum_by
grows_from from [] h m = refl
grows_from from (e ∷ es) h m =
    let q : (from + e) % 2 ^ 64 ≡ from + e = omega (arith, m) in
    (refl, (q, (omega (arith, h, m), grows_from (plus8 from e) es (omega (arith, q, h)) (omega (arith, q, m)))))

bars-sum : (from : ℕ) (es : List ℕ) → sum_by (λ (b : Bar). b.co2e) (bars_from from es) ≡ sum_by (λ (n : ℕ). n) es
unfolding sum_by
bars-sum from [] = refl
bars-sum from (e ∷ es) = ap (λ (n : ℕ). e + n) (bars-sum (plus8 from e) es)

-- bounds, over plain numbers
not-below : (n p : ℕ) → 2 ^ 63 + n ≡ p → 2 ^ 63 ≤ p
not-below n p e = omega (arith, e)

not-far : (p n w c t z r : ℕ) → 2 ^ 63 + n ≡ p → n + w ≡ c + t → t < 2 ^ 60 → c + z ≤ r * 10 ^ 13 → r ≤ 4096 → p < 2 ^ 63 + 2 ^ 62
not-far p n w c t z r e f h m k = omega (arith, e, f, h, m, k)

not-much : (x g c z r : ℕ) → x ≤ g + z → g < 2 ^ 60 → c + z ≤ r * 10 ^ 13 → r ≤ 4096 → x < 2 ^ 62
not-much x g c z r e h m k = omega (arith, e, h, m, k)

-- ---- CO2e of the seven

plain-seven : (f : Farm) (x y z : ℕ → ℕ) → plainly f (seven x) (seven y) (seven z) ≡ seven (λ k. plainly f (x k) (y k) (z k))
plain-seven f x y z =
    let p : ℕ → ℕ = λ k. plainly f (x k) (y k) (z k) in
    plain-plus f _ _ _ (x 9) (y 9) (z 9)
    ∙ ap (λ (n : ℕ). n + p 9) (plain-plus f _ _ _ (x 7) (y 7) (z 7)
    ∙ ap (λ (n : ℕ). n + p 7) (plain-plus f _ _ _ (x 6) (y 6) (z 6)
    ∙ ap (λ (n : ℕ). n + p 6) (plain-plus f _ _ _ (x 10) (y 10) (z 10)
    ∙ ap (λ (n : ℕ). n + p 10) (plain-plus f _ _ _ (x 5) (y 5) (z 5)
    ∙ ap (λ (n : ℕ). n + p 5) (plain-plus f (x 3) (y 3) (z 3) (x 4) (y 4) (z 4))))))

-- what holds of each of the seven
pub record Each (P : ℕ → Type 0) (v : ℕ → ℕ) : Type 0 where
  pub enteric : P (v 3)
  pub cattle : P (v 4)
  pub pig : P (v 5)
  pub grazing : P (v 10)
  pub energy : P (v 6)
  pub soil : P (v 7)
  pub tillage : P (v 9)

-- none is above their sum
each-most : (v : ℕ → ℕ) (t : ℕ) → seven v ≡ t → t < 2 ^ 60 → Each (λ (n : ℕ). n < 2 ^ 60) v
each-most v t e h =
    record {
      enteric = omega (arith, e, h);
      cattle = omega (arith, e, h);
      pig = omega (arith, e, h);
      grazing = omega (arith, e, h);
      energy = omega (arith, e, h);
      soil = omega (arith, e, h);
      tillage = omega (arith, e, h);
    }

module _ (s : ℕ → Sum) (a : Account) (m : Made s a) where
  -- CO2e of a kind's CH4, N2O and grazing, and together
  abbrev pub gases_of : ℕ → ℕ
  gases_of k = plainly a.farm (s k).ch4 (s k).n2o (s k).grazing

  abbrev pub co2e_by : ℕ → ℕ
  co2e_by k = plus8 (warmed a.farm (s k).ch4 (s k).n2o (s k).grazing) (s k).co2

  pub gases-make : seven gases_of ≡ all_plain a m.range
  gases-make =
      sym (plain-seven a.farm (λ k. (s k).ch4) (λ k. (s k).n2o) (λ k. (s k).grazing))
      ∙ (rw (m.makes.ch4, m.makes.n2o, m.makes.grazing) refl)

  pub gases-most : Each (λ (n : ℕ). n < 2 ^ 60) gases_of
  gases-most = each-most gases_of _ gases-make (all_most a m.range)

  few : a.records ≤ 4096
  few = m.range.started.counted.records-most

  -- of a kind whose CO2 is not below zero
  co2e-low : (k : ℕ) → gases_of k < 2 ^ 60 → (s k).co2 ≤ 4096 * 10 ^ 13 → co2e_by k ≡ gases_of k + (s k).co2
  co2e-low k h c =
      let e : (gases_of k + (s k).co2) % 2 ^ 64 ≡ gases_of k + (s k).co2 = omega (arith, h, c) in
      ap (λ (n : ℕ). plus8 n (s k).co2) (warmed-plain a.farm _ _ _ (omega (arith, h))) ∙ e

  -- of tillage
  pub till-word : co2e_by 9 < 2 ^ 64
  till-word = omega arith

  pub till-signed : signed_of (co2e_by 9) ≡ pos (gases_of 9) +ℤ signed_of (s 9).co2
  till-signed =
      let h = gases-most.tillage in
      let c : nat_abs (signed_of (s 9).co2) ≤ 4096 * 10 ^ 13 = omega (arith, m.carbons.most, few) in
      let e = signed-plain (gases_of 9) (omega (arith, h)) in
      let far = abs-plus (pos (gases_of 9)) (signed_of (s 9).co2) in
      ap (λ (n : ℕ). signed_of (plus8 n (s 9).co2)) (warmed-plain a.farm _ _ _ (omega (arith, h)))
      ∙ ap signed_of (sym (words-plus (gases_of 9) (s 9).co2 (omega (arith, h)) m.carbons.word))
      ∙ (rw e (signed_word (pos (gases_of 9) +ℤ signed_of (s 9).co2) (omega (arith, far, h, c))))

  -- the six before it
  abbrev pub six_co2e : List ℕ
  six_co2e = co2e_by 3 ∷ co2e_by 4 ∷ co2e_by 5 ∷ co2e_by 10 ∷ co2e_by 6 ∷ co2e_by 7 ∷ []

  pub six-sum : sum_by (λ (n : ℕ). n) six_co2e + gases_of 9 ≡ (s 6).co2 + (s 7).co2 + all_plain a m.range
  unfolding sum_by
  six-sum =
      let c = m.carbons in
      let g = gases-most in
      let e3 = co2e-low 3 g.enteric (omega (arith, c.enteric)) in
      let e4 = co2e-low 4 g.cattle (omega (arith, c.cattle)) in
      let e5 = co2e-low 5 g.pig (omega (arith, c.pig)) in
      let e10 = co2e-low 10 g.grazing (omega (arith, c.grazing)) in
      let e6 = co2e-low 6 g.energy (omega (arith, c.most, few)) in
      let e7 = co2e-low 7 g.soil (omega (arith, c.most, few)) in
      rw (e3, e4, e5, e10, e6, e7)
      (all (gases_of 3) (gases_of 4) (gases_of 5) (gases_of 10) (gases_of 6) (gases_of 7) (gases_of 9) (all_plain a m.range)
      (s 3).co2 (s 4).co2 (s 5).co2 (s 10).co2 (s 6).co2 (s 7).co2 gases-make c.enteric c.cattle c.pig c.grazing)
    where
      all : (g3 g4 g5 g10 g6 g7 g9 t c3 c4 c5 c10 c6 c7 : ℕ) → g3 + g4 + g5 + g10 + g6 + g7 + g9 ≡ t → c3 ≡ 0 → c4 ≡ 0 → c5 ≡ 0 → c10 ≡ 0
          → g3 + c3 + (g4 + c4 + (g5 + c5 + (g10 + c10 + (g6 + c6 + (g7 + c7 + 0))))) + g9 ≡ c6 + c7 + t
      all g3 g4 g5 g10 g6 g7 g9 t c3 c4 c5 c10 c6 c7 e n3 n4 n5 n10 = omega (arith, e, n3, n4, n5, n10)

  pub six-grow : Grows no_step (bars_from no_step six_co2e) (end_from no_step six_co2e)
  six-grow =
      grows_from no_step six_co2e (omega arith) (omega (arith, six-sum, all_most a m.range, m.carbons.most, few))

  -- the step that they come to
  six-end : no_step + sum_by (λ (n : ℕ). n) six_co2e ≡ end_from no_step six_co2e
  six-end =
      ap (λ (n : ℕ). no_step + n) (sym (bars-sum no_step six_co2e))
      ∙ grows-sum no_step (bars_from no_step six_co2e) (end_from no_step six_co2e) six-grow

  pub six-up : 2 ^ 63 ≤ end_from no_step six_co2e
  six-up = not-below _ _ six-end

  pub six-far : end_from no_step six_co2e < 2 ^ 63 + 2 ^ 62
  six-far = not-far _ _ _ _ _ _ _ six-end six-sum (all_most a m.range) m.carbons.most few

  -- how far tillage's bar goes
  pub till-near : nat_abs (signed_of (co2e_by 9)) < 2 ^ 62
  till-near =
      rw till-signed
      (not-much _ _ _ _ _ (abs-plus (pos (gases_of 9)) (signed_of (s 9).co2)) gases-most.tillage m.carbons.most few)
