-- Laws of scales: a cascade that rises and then goes by its last bar has its scale from the least to the greatest of all its steps, and each step
-- stands in it.
-- Assumes nothing.
use Prim.Native.Nat.{ℕ, suc, ◌+◌, ◌-◌, ◌*◌, ◌^◌, ◌%◌, ◌≤◌, ◌<◌}
use mathlib.Core.Path.{◌≡◌, refl, sym, ap, ◌∙◌, subst}
use mathlib.Core.List.{List, [], ◌∷◌, ◌++◌, append-nil}
use native.Mathlib.Omega.{arith}
use native.Mathlib.Nat.{le_refl, le_trans, div-le_of_le-mul}
use borrow.Author.Tests.{ltb-true, ltb-false, le-ltb, eqb-true}
use lib.Dec.{ltb, eqb}
use lib.IntN.{pos, nat_abs, ◌+ℤ◌}
use Rattle.base.specs.Signed.{signed_of}
use Rattle.base.proofs.Tests.{by-test}
use Rattle.page.specs.declared.Scale.{Scale}
use Rattle.page.specs.Bars.{plus8, no_step, lesser, greater, unit_of, scale_of, place_of}
use Rattle.page_sums.specs.Tables.{Bar}
use Rattle.page_sums.specs.InScale.{Cascade, steps_of, least_of, greatest_of, scale_over, Places, InScale}
use Rattle.page_sums.proofs.Columns.{map-append, Grows, grows-cascade}

-- ---- the lesser and the greater of two

lesser-first : (m t : ℕ) → m ≤ t → lesser m t ≡ m
lesser-first m t h = by-test (ltb m t) (λ e. rw e refl) (λ e. let g = ltb-false m t e in let q : t ≡ m = omega (arith, h, g) in rw e q)

greater-second : (m t : ℕ) → m ≤ t → greater m t ≡ t
greater-second m t h = by-test (ltb m t) (λ e. rw e refl) (λ e. let g = ltb-false m t e in let q : m ≡ t = omega (arith, h, g) in rw e q)

lesser-below : (m t : ℕ) → (lesser m t ≤ m) × (lesser m t ≤ t)
lesser-below m t =
    by-test (ltb m t) (λ e. let h = ltb-true m t e in rw e (le_refl m, omega (arith, h)))
    (λ e. let h = ltb-false m t e in rw e (h, le_refl t))

greater-above : (m t : ℕ) → (m ≤ greater m t) × (t ≤ greater m t)
greater-above m t =
    by-test (ltb m t) (λ e. let h = ltb-true m t e in rw e (omega (arith, h), le_refl t))
    (λ e. let h = ltb-false m t e in rw e (le_refl m, h))

-- ---- the least and the greatest of a list

least-append : (m : ℕ) (ts us : List ℕ) → least_of m (ts ++ us) ≡ least_of (least_of m ts) us
unfolding least_of
least-append m [] us = refl
least-append m (t ∷ ts) us = least-append (lesser m t) ts us

greatest-append : (m : ℕ) (ts us : List ℕ) → greatest_of m (ts ++ us) ≡ greatest_of (greatest_of m ts) us
unfolding greatest_of
greatest-append m [] us = refl
greatest-append m (t ∷ ts) us = greatest-append (greater m t) ts us

least-rises : (m step : ℕ) (bs : List Bar) (end : ℕ) → m ≤ step → Grows step bs end → least_of m (steps_of bs) ≡ m
unfolding least_of
least-rises m step [] end h g = refl
least-rises m step (b ∷ bs) end h g =
    let up : m ≤ b.to = omega (arith, h, g.1.0) in
    ap (λ (n : ℕ). least_of n (steps_of bs)) (lesser-first m b.to up) ∙ least-rises m b.to bs end up g.1.1.1

greatest-rises : (step : ℕ) (bs : List Bar) (end : ℕ) → Grows step bs end → greatest_of step (steps_of bs) ≡ end
unfolding greatest_of
greatest-rises step [] end g = g
greatest-rises step (b ∷ bs) end g =
    let up : step ≤ b.to = omega (arith, g.1.0) in
    ap (λ (n : ℕ). greatest_of n (steps_of bs)) (greater-second step b.to up) ∙ greatest-rises b.to bs end g.1.1.1

end-above : (step : ℕ) (bs : List Bar) (end : ℕ) → Grows step bs end → step ≤ end
end-above step [] end g = omega (arith, g)
end-above step (b ∷ bs) end g = let h = end-above b.to bs end g.1.1.1 in omega (arith, h, g.1.0)

-- ---- each step stands in the scale

abbrev Above : ℕ → List ℕ → Type 0
Above lo [] = Unit {0}
Above lo (t ∷ ts) = (lo ≤ t) × Above lo ts

abbrev Below : ℕ → List ℕ → Type 0
Below hi [] = Unit {0}
Below hi (t ∷ ts) = (t ≤ hi) × Below hi ts

least_above : (m : ℕ) (ts : List ℕ) → Above (least_of m ts) (m ∷ ts)
unfolding least_of
least_above m [] = (le_refl m, tt)
least_above m (t ∷ ts) =
    let l = lesser-below m t in
    let h = least_above (lesser m t) ts in
    (le_trans h.0 l.0, (le_trans h.0 l.1, h.1))

greatest-below : (m : ℕ) (ts : List ℕ) → Below (greatest_of m ts) (m ∷ ts)
unfolding greatest_of
greatest-below m [] = (le_refl m, tt)
greatest-below m (t ∷ ts) =
    let g = greater-above m t in
    let h = greatest-below (greater m t) ts in
    (le_trans g.0 h.0, (le_trans g.1 h.0, h.1))

unit-most : (way : ℕ) → way ≤ unit_of way * 1000
unit-most way = by-test (eqb way 0) (λ e. let z = eqb-true way 0 e in rw e (omega (arith, z))) (λ e. rw e (omega arith))

place-most : (lo hi t : ℕ) → t ≤ hi → place_of (record { lo = lo; unit = unit_of (hi - lo) }) t ≤ 1000
place-most lo hi t h =
    let u = unit-most (hi - lo) in
    div-le_of_le-mul (unit_of (hi - lo)) (le_trans (way h) u)
  where
    way : t ≤ hi → t - lo ≤ hi - lo
    way k = omega (arith, k)

places : (lo hi : ℕ) (ts : List ℕ) → Above lo ts → Below hi ts → Places (record { lo = lo; unit = unit_of (hi - lo) }) ts
places lo hi [] a b = tt
places lo hi (t ∷ ts) a b = ((a.0, place-most lo hi t b.0), places lo hi ts a.1 b.1)

in-scale : (sc : Scale) (bs : List Bar) → Cascade no_step bs → sc ≡ scale_over bs → InScale sc bs
in-scale sc bs c e =
    record {
      cascade = c;
      scale = e;
      places =
          subst (λ (x : Scale). Places x (no_step ∷ steps_of bs)) (sym e)
          (places (least_of no_step (steps_of bs)) (greatest_of no_step (steps_of bs)) (no_step ∷ steps_of bs) (least_above no_step (steps_of bs))
          (greatest-below no_step (steps_of bs)));
    }

-- ---- a cascade that rises, alone and with a last bar

scale-by : (lo hi l h : ℕ) → lo ≡ l → hi ≡ h
    → ◌≡◌ {A = Scale} (record { lo = lo; unit = unit_of (hi - lo) }) (record { lo = l; unit = unit_of (h - l) })
scale-by lo hi l h e f = rw (e, f) refl

module _ (bs : List Bar) (end : ℕ) (g : Grows no_step bs end) where
  pub scaled-alone : InScale (scale_of end end) bs
  unfolding scale_of
  scaled-alone =
      let up = end-above no_step bs end g in
      let lo = lesser-first no_step end up ∙ sym (least-rises no_step no_step bs end (le_refl no_step) g) in
      let hi = greater-second end end (le_refl end) ∙ sym (greatest-rises no_step bs end g) in
      in-scale _ bs (rw (append-nil bs) at (grows-cascade no_step bs [] end g tt)) (scale-by _ _ _ _ lo hi)

  pub scaled-last : (b : Bar) → b.from ≡ end → pos b.to ≡ pos end +ℤ signed_of b.co2e → InScale (scale_of end b.to) (bs ++ (b ∷ []))
  unfolding scale_of least_of greatest_of
  scaled-last b e f =
      let steps = map-append (λ (x : Bar). x.to) bs (b ∷ []) in
      let lo : least_of no_step (steps_of (bs ++ (b ∷ []))) ≡ lesser no_step b.to =
      ap (least_of no_step) steps ∙ least-append no_step (steps_of bs) (b.to ∷ [])
      ∙ ap (λ (n : ℕ). lesser n b.to) (least-rises no_step no_step bs end (le_refl no_step) g) in
      let hi : greatest_of no_step (steps_of (bs ++ (b ∷ []))) ≡ greater end b.to =
      ap (greatest_of no_step) steps ∙ greatest-append no_step (steps_of bs) (b.to ∷ [])
      ∙ ap (λ (n : ℕ). greater n b.to) (greatest-rises no_step bs end g) in
      in-scale _ (bs ++ (b ∷ [])) (grows-cascade no_step bs (b ∷ []) end g (e, (f, tt))) (scale-by _ _ _ _ (sym lo) (sym hi))

-- ---- the last bar, up or down

pub last_step : (p w : ℕ) → 2 ^ 63 ≤ p → p < 2 ^ 63 + 2 ^ 62 → w < 2 ^ 64 → nat_abs (signed_of w) < 2 ^ 62
    → pos (plus8 p w) ≡ pos p +ℤ signed_of w
last_step p w lo hi small near =
    by-test (ltb w (2 ^ 63))
    (λ t.
    let h : w < 2 ^ 62 = rw t at near in
    let e : (p + w) % 2 ^ 64 ≡ p + w = omega (arith, h, hi) in
    rw t (ap pos e))
    (λ t.
    let h = ltb-false w (2 ^ 63) t in
    let down : 2 ^ 64 - suc w < p = omega (arith, h, lo) in
    let e : (p + w) % 2 ^ 64 ≡ p - suc (2 ^ 64 - suc w) = omega (arith, h, hi, lo, small) in
    rw (t, le-ltb p (suc (2 ^ 64 - suc w)) down) (ap pos e))
