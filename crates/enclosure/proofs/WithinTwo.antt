-- The rate is within 2 mg of both ends of the enclosure, for every change of the table and every year: a test that antt computes,
-- a walk over a hundred years for each lumCmax and k, which hands the values of one year on to the next. And so it is within 2 mg by
-- every later sum. Assumes nothing.
use mathlib.Core.Path.{◌≡◌, refl, sym, ◌∙◌, ap}
use mathlib.Core.Logic.{◌⊎◌, inl, inr, ⊎_elim}
use mathlib.Core.Bool.{Bool, true, false}
use Prim.Native.Nat.{ℕ, zero, suc, ◌+◌, ◌-◌, ◌*◌, ◌%◌, ◌^◌, ◌<◌, ◌≤◌}
use native.Mathlib.Nat.{not-suc-le-zero, le_of_suc-le-suc, zero-add, add-zero, le_refl, mul-le-mul}
use native.Mathlib.Omega.{arith}
use lib.Dec.{T, eqb, leb, ltb, eqb→eq, leb→le, ltb→lt}
use lib.IntN.{ℤ, nat_abs}
use Rattle.grams.specs.Round.{round_div}
use Rattle.grams.specs.TillageTable.{PlaceIn, less_tillage, less_of, pair_of}
use Rattle.grams.specs.CarbonRate.{steps, exp_of, rate_of, with_sign, mg_of}
use Rattle.grams.proofs.Places.{both, left, right, every, every-place, at_place}
use Rattle.grams.proofs.tillage.Signs.{mg-amount}
use Rattle.enclosure.specs.PartialSums.{over, unless, added, taken, rise, Enclosed}
use Rattle.enclosure.specs.WithinTwo.{Sum, upper, lower, sum_to, Near, WithinTwo}
use Rattle.enclosure.proofs.Enclosed.{over-rise, enclosed-at}

-- ---- the test of one year

near : ℕ → ℕ → Sum → Sum → Bool
near r c s t =
    let p = c * (s.plus + t.minus) in
    let q = c * (s.minus + t.plus) in
    both (leb (r * over 21 + q) (p + 2 * over 21)) (leb p (r * over 21 + q + 2 * over 21))

near-is : (r c : ℕ) (s t : Sum) → T (near r c s t) → Near (over 21) r c s t
unfolding near Near
near-is r c s t h = (leb→le _ _ (left _ _ h), leb→le _ _ (right _ _ h))

-- E and the two sums at x
record Point : Type 0 where
  e : ℕ
  up : Sum
  down : Sum

-- the sum up to x^21, from the one up to x^20
next : ℕ → Sum → Sum
next x s = record { plus = s.plus + 0; minus = s.minus + x ^ 21 }

point : ℕ → Point
point x = let s = upper x in record { e = exp_of x; up = s; down = next x s }

one_more : (x m : ℕ)
    → sum_to x (suc m)
    ≡ record {
      plus = added x m * (10000 * suc m) + unless (suc m % 2) (x ^ suc m);
      minus = taken x m * (10000 * suc m) + unless (m % 2) (x ^ suc m);
    }
unfolding added taken
one_more x m = refl

next-is : (x : ℕ) → next x (upper x) ≡ lower x
unfolding next
next-is x = sym (one_more x 20)

-- the rate without its sign, by the points
amount : ℕ → ℕ → ℕ → ℕ
amount lum k y = round_div (lum * ((point (k * (y - 1))).e - (point (k * y)).e)) (10 ^ 9)

-- both ends, by the amounts
record Close (lum k y : ℕ) : Type 0 where
  low : Near (over 21) (amount lum k y) (lum * 1000) (lower (k * (y - 1))) (upper (k * y))
  high : Near (over 21) (amount lum k y) (lum * 1000) (upper (k * (y - 1))) (lower (k * y))

year : ℕ → Point → Point → Bool
year lum a b =
    let r = round_div (lum * (a.e - b.e)) (10 ^ 9) in
    both (near r (lum * 1000) a.down b.up) (near r (lum * 1000) a.up b.down)

year-is : (lum k y : ℕ) → T (year lum (point (k * y)) (point (k * suc y))) → Close lum k (suc y)
unfolding year point amount
year-is lum k y t =
    let e : suc y - 1 ≡ y = omega arith in
    record {
      low = rw (e, ← next-is (k * y)) (near-is _ _ _ _ (left _ _ t));
      high = rw (e, ← next-is (k * suc y)) (near-is _ _ _ _ (right _ _ t));
    }

-- ---- n years from y on

walk : ℕ → ℕ → ℕ → ℕ → Point → Bool
walk lum k zero y a = true
walk lum k (suc n) y a = let b = point (k * suc y) in both (year lum a b) (walk lum k n (suc y) b)

walked : (lum k n y : ℕ) → T (walk lum k n y (point (k * y))) → (j : ℕ) → j < n → Close lum k (suc (y + j))
unfolding walk
walked lum k zero y t j h = absurd (not-suc-le-zero h)
walked lum k (suc n) y t zero h = rw (add-zero y) (year-is lum k y (left _ _ t))
walked lum k (suc n) y t (suc j) h =
    let e : y + suc j ≡ suc y + j = omega arith in
    rw e (walked lum k n (suc y) (right _ _ t) j (le_of_suc-le-suc h))

century : ℕ → ℕ → Bool
century lum k = walk lum k 100 0 (point (k * 0))

century-is : (lum k : ℕ) → T (century lum k) → (y : ℕ) → y < 100 → Close lum k (suc y)
unfolding century
century-is lum k t y h = rw zero-add at (walked lum k 100 0 t y h)

-- ---- every change of the table

abbrev lum_at : ℕ → ℕ → ℕ → ℕ
lum_at zone texture change = nat_abs (pair_of zone texture change).lum

abbrev k_at : ℕ → ℕ → ℕ → ℕ
k_at zone texture change = (pair_of zone texture change).k

either : Bool → Bool → Bool
either true b = true
either false b = b

one_of : (a b : Bool) → T (either a b) → T a ⊎ T b
unfolding either
one_of true b t = inl tt
one_of false b t = inr t

-- a reversed change with the amounts of the change that it reverses: its years are walked already
repeated : ℕ → ℕ → ℕ → Bool
repeated zone texture change =
    both (ltb 3 change)
    (both (eqb (lum_at zone texture change) (lum_at zone texture (change - 3)))
    (eqb (k_at zone texture change) (k_at zone texture (change - 3))))

close-always : ℕ → ℕ → ℕ → Bool
close-always zone texture change = either (repeated zone texture change) (century (lum_at zone texture change) (k_at zone texture change))

-- THE TEST: antt computes it
checked : T (every-place close-always)
unfolding both every either near next point year walk century repeated close-always steps exp_of added taken over round_div less_tillage less_of pair_of
checked = tt

module _ (zone texture y : ℕ) (to : y < 100) where
  tested : (change : ℕ) → PlaceIn zone texture change
      → T (repeated zone texture change) ⊎ Close (lum_at zone texture change) (k_at zone texture change) (suc y)
  unfolding close-always
  tested change i = ⊎_elim (λ r. inl r) (λ w. inr (century-is _ _ w y to)) (one_of _ _ (at_place close-always checked zone texture change i))

  first_three : (change : ℕ) → PlaceIn zone texture change → change ≤ 3 → Close (lum_at zone texture change) (k_at zone texture change) (suc y)
  unfolding repeated
  first_three change i h = ⊎_elim (λ r. absurd (omega (arith, ltb→lt 3 change (left _ _ r)))) (λ w. w) (tested change i)

  any-six : (change : ℕ) → PlaceIn zone texture change → Close (lum_at zone texture change) (k_at zone texture change) (suc y)
  unfolding repeated
  any-six change i = ⊎_elim from-reversed (λ w. w) (tested change i)
    where
      from-reversed : T (repeated zone texture change) → Close (lum_at zone texture change) (k_at zone texture change) (suc y)
      from-reversed r =
          let l : 3 < change = ltb→lt 3 change (left _ _ r) in
          let e : lum_at zone texture change ≡ lum_at zone texture (change - 3) = eqb→eq _ _ (left _ _ (right _ _ r)) in
          let f : k_at zone texture change ≡ k_at zone texture (change - 3) = eqb→eq _ _ (right _ _ (right _ _ r)) in
          let j : (1 ≤ change - 3) × (change - 3 ≤ 6) = omega arith in
          rw (e, f) (first_three (change - 3) (record { zone-in = i.zone-in; texture-in = i.texture-in; change-in = j }) (omega arith))

-- ---- every later sum

-- p and q, p' and q' are the two sides of c × (s − t), by the ends and by a later sum, which is over so many times d
module _ (r c d t p q p' q' : ℕ) where
  from_low : r * d + c * q ≤ c * p + 2 * d → p * t + q' ≤ p' + q * t → r * (d * t) + c * q' ≤ c * p' + 2 * (d * t)
  from_low h e =
      let f : (r * d + c * q) * t ≤ (c * p + 2 * d) * t = mul-le-mul h (le_refl t) in
      let g : c * (p * t + q') ≤ c * (p' + q * t) = mul-le-mul (le_refl c) e in
      omega (arith, f, g)

  from-high : c * p ≤ r * d + c * q + 2 * d → p' + q * t ≤ q' + p * t → c * p' ≤ r * (d * t) + c * q' + 2 * (d * t)
  from-high h e =
      let f : c * p * t ≤ (r * d + c * q + 2 * d) * t = mul-le-mul h (le_refl t) in
      let g : c * (p' + q * t) ≤ c * (q' + p * t) = mul-le-mul (le_refl c) e in
      omega (arith, f, g)

-- the two ends at x, brought to the denominator of the sum j terms after the lower one
rise_one : (j : ℕ) → rise 20 (suc j) ≡ 210000 * rise 21 j
unfolding rise
rise_one j = refl

module _ (x j : ℕ) where
  under-upper : Enclosed x (suc j) → (sum_to x (21 + j)).plus + (upper x).minus * rise 21 j ≤ (sum_to x (21 + j)).minus + (upper x).plus * rise 21 j
  under-upper e =
      let shift : 20 + suc j ≡ 21 + j = omega arith in
      let a = rw (shift, rise_one j) at e.above in
      omega (arith, a)

  above_lower : Enclosed x j → (lower x).plus * rise 21 j + (sum_to x (21 + j)).minus ≤ (sum_to x (21 + j)).plus + (lower x).minus * rise 21 j
  above_lower e = omega (arith, e.below)

-- within 2 at both ends is within 2 by the sums between them
between : (r c a b j : ℕ) → Near (over 21) r c (lower a) (upper b) → Near (over 21) r c (upper a) (lower b)
    → ((i : ℕ) → Enclosed a i) → ((i : ℕ) → Enclosed b i) → Near (over (21 + j)) r c (sum_to a (21 + j)) (sum_to b (21 + j))
unfolding Near
between r c a b j low high before after =
    let t = rise 21 j in
    let la = above_lower a j (before j) in
    let ua = under-upper a j (before (suc j)) in
    let lb = above_lower b j (after j) in
    let ub = under-upper b j (after (suc j)) in
    rw (over-rise 21 j) (
      from_low r c (over 21) t ((lower a).plus + (upper b).minus) ((lower a).minus + (upper b).plus) _ _ low.0 (omega (arith, la, ub)),
      from-high r c (over 21) t ((upper a).plus + (lower b).minus) ((upper a).minus + (lower b).plus) _ _ high.1 (omega (arith, ua, lb)),
    )

-- ---- as the rule has it

amount-is : (lum k y : ℕ) → amount lum k y ≡ rate_of lum k y
unfolding point amount rate_of exp_of
amount-is lum k y = refl

-- with the sign of lumCmax
mg-is : (lum : ℤ) (k y : ℕ) → mg_of lum k y ≡ with_sign lum (rate_of (nat_abs lum) k y)
unfolding mg_of
mg-is lum k y = refl

signed : (lum : ℤ) (k y : ℕ) → Close (nat_abs lum) k y → ((j : ℕ) → Enclosed (k * (y - 1)) j) → ((j : ℕ) → Enclosed (k * y) j) → WithinTwo lum k y
signed lum k y c before after =
    let e : nat_abs (mg_of lum k y) ≡ amount (nat_abs lum) k y = mg-amount lum k y ∙ sym (amount-is (nat_abs lum) k y) in
    record {
      low = rw e c.low;
      high = rw e c.high;
      before = before;
      after = after;
      sums = λ j. rw e (between (amount (nat_abs lum) k y) (nat_abs lum * 1000) (k * (y - 1)) (k * y) j c.low c.high before after);
      side = mg-is lum k y ∙ ap (with_sign lum) (sym (mg-amount lum k y));
    }

-- For every change of the table and every year from 1 to 100 the mg are within 2 of the rate: at both ends of its enclosure, and by the sums up to
-- x^(21 + j) for every j, which the ends enclose.
pub within-two : (zone texture change y : ℕ) → PlaceIn zone texture change → 1 ≤ y → y ≤ 100
    → WithinTwo (pair_of zone texture change).lum (pair_of zone texture change).k y
within-two zone texture change zero i from to = absurd (not-suc-le-zero from)
within-two zone texture change (suc y) i from to =
    signed _ _ (suc y) (any-six zone texture y to change i) (λ j. enclosed-at zone texture change (suc y - 1) j i (omega arith))
    (λ j. enclosed-at zone texture change (suc y) j i to)
