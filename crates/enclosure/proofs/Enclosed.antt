-- The two sums enclose every later one: the terms alternate in sign, and behind x^20 they fall. Assumes nothing.
use mathlib.Core.Path.{◌≡◌, refl, sym, ◌∙◌}
use Prim.Native.Nat.{ℕ, zero, suc, ◌+◌, ◌-◌, ◌*◌, ◌%◌, ◌^◌, ◌≤◌}
use native.Mathlib.Nat.{le_trans, mul-le-mul, add-zero, sub-le, add-sub_of_le, pow-suc}
use native.Mathlib.Omega.{arith}
use lib.Dec.{lit≤}
use Rattle.grams.specs.TillageTable.{PlaceIn, pair_of}
use Rattle.grams.proofs.tillage_table.Pairs.{k-most}
use Rattle.enclosure.specs.PartialSums.{over, added, taken, rise, Enclosed}

pub over-rise : (m j : ℕ) → over (m + j) ≡ over m * rise m j
unfolding over rise
over-rise m zero = rw (add-zero m) (omega arith)
over-rise m (suc j) =
    let e : m + suc j ≡ suc m + j = omega arith in
    let f : over m * (10000 * suc m) * rise (suc m) j ≡ over m * (10000 * suc m * rise (suc m) j) = omega arith in
    rw e (over-rise (suc m) j ∙ f)

-- ---- the next sum, by the degree of the last term

module _ (x m : ℕ) where
  added-even : m % 2 ≡ 0 → added x (suc m) ≡ added x m * (10000 * suc m)
  unfolding added
  added-even e = let f : suc m % 2 ≡ 1 = omega arith in rw f (omega arith)

  taken-even : m % 2 ≡ 0 → taken x (suc m) ≡ taken x m * (10000 * suc m) + x ^ suc m
  unfolding taken
  taken-even e = rw e

  added-odd : m % 2 ≡ 1 → added x (suc m) ≡ added x m * (10000 * suc m) + x ^ suc m
  unfolding added
  added-odd e = let f : suc m % 2 ≡ 0 = omega arith in rw f

  taken-odd : m % 2 ≡ 1 → taken x (suc m) ≡ taken x m * (10000 * suc m)
  unfolding taken
  taken-odd e = rw e (omega arith)

-- ---- what the terms behind x^m come to: u parts of x^m, with its sign turned, u from 0 to all of it

record Tail (x m j : ℕ) : Type 0 where
  u : ℕ
  small : u ≤ rise m j
  even : m % 2 ≡ 0 → added x (m + j) + (taken x m * rise m j + x ^ m * u) ≡ taken x (m + j) + added x m * rise m j
  odd : m % 2 ≡ 1 → taken x (m + j) + (added x m * rise m j + x ^ m * u) ≡ added x (m + j) + taken x m * rise m j

-- one term more in front
front : (a' t' a t c r w x u d : ℕ) → r ≡ u + d → t' + (a * c * r + w * x * u) ≡ a' + (t * c + w * x) * r
    → a' + (t * (c * r) + w * (x * d)) ≡ t' + a * (c * r)
front a' t' a t c r w x u d e h =
    let g : t' + (a * c * (u + d) + w * x * u) ≡ a' + (t * c + w * x) * (u + d) = rw e at h in
    rw e (omega (arith, g))

tail : (x m j : ℕ) → x ≤ 10000 * suc m → Tail x m j
unfolding rise
tail x m zero h = record { u = 0; small = omega arith; even = λ e. rw (add-zero m) (omega arith); odd = λ e. rw (add-zero m) (omega arith) }
tail x m (suc j) h =
    let t : Tail x (suc m) j = tail x (suc m) j (omega arith) in
    let r : ℕ = rise (suc m) j in
    let d : ℕ = r - t.u in
    let whole : r ≡ t.u + d = sym (add-sub_of_le t.small) in
    let shift : m + suc j ≡ suc m + j = omega arith in
    record {
      u = x * d;
      small = mul-le-mul h (sub-le r t.u);
      even = λ e.
          rw shift
          (front _ _ (added x m) (taken x m) (10000 * suc m) r (x ^ m) x t.u d whole
          (rw (added-even x m e, taken-even x m e, pow-suc x m) at (t.odd (omega arith))));
      odd = λ e.
          rw shift
          (front _ _ (taken x m) (added x m) (10000 * suc m) r (x ^ m) x t.u d whole
          (rw (taken-odd x m e, added-odd x m e, pow-suc x m) at (t.even (omega arith))));
    }

pub enclosed : (x j : ℕ) → x ≤ 40300 → Enclosed x j
enclosed x j h =
    let a : x ≤ 10000 * suc 20 = le_trans h (lit≤ tt) in
    let b : x ≤ 10000 * suc 21 = le_trans h (lit≤ tt) in
    record {
      above = omega (arith, (tail x 20 j a).even refl);
      below = omega (arith, (tail x 21 j b).odd refl);
    }

-- at every exponent that the table and a hundred years give
pub enclosed-at : (zone texture change y j : ℕ) → PlaceIn zone texture change → y ≤ 100 → Enclosed ((pair_of zone texture change).k * y) j
enclosed-at zone texture change y j i h = enclosed ((pair_of zone texture change).k * y) j (mul-le-mul (k-most i) h)
