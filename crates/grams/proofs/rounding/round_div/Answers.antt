-- `grams::rounding::round_div` meets its contract: what it returns is the rounded number by the law that there is one only.
-- Assumes nothing.
use Rattle.std.proofs.Common.{◌≡◌, ℕ, ◌+◌, ◌*◌, ◌/◌, ◌%◌, ◌<◌, ◌≤◌, Bool, true, false, eqb, refl, mul-le-mul_right, mod-lt, arith, eqb-true}
use borrow.Author.Tests.{eqb-false}
use native.Mathlib.Nat.{div-add-mod}
use Rattle.base.specs.Choice.{pick}
use Rattle.grams.specs.Round.{Rounded}
use Rattle.grams.proofs.Round.{rounded-is}
use Rattle.grams.proofs.rounding.round_div.Goals as goal

-- t is 1 where d is even and the whole number odd
module _ (n d t : ℕ) (h : 0 < d) (e : t ≡ pick (eqb (d % 2) 0) (n / d % 2) 0) where
  parts : d * (n / d) + n % d ≡ n
  parts = div-add-mod n d

  rest_below : n % d < d
  rest_below = mod-lt n h

  one_at_most : (b : Bool) → pick b (n / d % 2) 0 ≤ 1
  one_at_most true = omega arith
  one_at_most false = omega arith

  small : t ≤ 1
  small = rw e (one_at_most (eqb (d % 2) 0))

  -- one more where the rest is above a half, or is one and the whole number odd
  up_by : (b : Bool) → eqb (d % 2) 0 ≡ b → d / 2 < n % d + pick b (n / d % 2) 0 → Rounded n d (n / d + 1)
  up_by true f l =
      let p = parts in
      let q = rest_below in
      let even : d % 2 ≡ 0 = eqb-true _ _ f in
      record { low = omega arith; high = omega arith; half-above = λ e. omega arith; half-below = λ e. omega arith }
  up_by false f l =
      let p = parts in
      let q = rest_below in
      let odd : d % 2 ≡ 0 → ⊥ = eqb-false _ _ f in
      record { low = omega arith; high = omega arith; half-above = λ e. omega arith; half-below = λ e. omega arith }

  up : d / 2 < n % d + t → Rounded n d (n / d + 1)
  up l = up_by (eqb (d % 2) 0) refl (rw e at l)

  -- then d is 2 at least, so that one more than the whole number is a number still
  two-by : (b : Bool) → eqb (d % 2) 0 ≡ b → d / 2 < n % d + pick b (n / d % 2) 0 → 2 ≤ d
  two-by true f l = let even : d % 2 ≡ 0 = eqb-true _ _ f in omega arith
  two-by false f l = let q = rest_below in omega arith

  half : d / 2 < n % d + t → 2 * (n / d) ≤ n
  half l =
      let p = parts in
      omega (arith, mul-le-mul_right (n / d) (two-by (eqb (d % 2) 0) refl (rw e at l)))

  -- the whole number else
  down_by : (b : Bool) → eqb (d % 2) 0 ≡ b → n % d + pick b (n / d % 2) 0 ≤ d / 2 → Rounded n d (n / d)
  down_by true f l =
      let p = parts in
      let q = rest_below in
      let even : d % 2 ≡ 0 = eqb-true _ _ f in
      record { low = omega arith; high = omega arith; half-above = λ e. omega arith; half-below = λ e. omega arith }
  down_by false f l =
      let p = parts in
      let q = rest_below in
      let odd : d % 2 ≡ 0 → ⊥ = eqb-false _ _ f in
      record { low = omega arith; high = omega arith; half-above = λ e. omega arith; half-below = λ e. omega arith }

  down : n % d + t ≤ d / 2 → Rounded n d (n / d)
  down l = down_by (eqb (d % 2) 0) refl (rw e at l)

pub overflow_add-rest : goal.overflow_add-rest
overflow_add-rest c = let a = c.args in
    omega (arith, mod-lt a.n c.requires, small a.n a.d _ c.requires c.half_up.ensures)

pub overflow_add-result : goal.overflow_add-result
overflow_add-result c = let a = c.args in
    let h = c.requires in
    omega (arith, half a.n a.d _ h c.half_up.ensures (omega (arith, c.if-d-rest.true)))

pub returns-then-d-rest : goal.returns-then-d-rest
returns-then-d-rest c = let a = c.args in
    let h = c.requires in
    rounded-is a.n a.d _ h (up a.n a.d _ h c.half_up.ensures (omega (arith, c.if-d-rest.true)))

pub returns-else-d-rest : goal.returns-else-d-rest
returns-else-d-rest c = let a = c.args in
    let h = c.requires in
    rounded-is a.n a.d _ h (down a.n a.d _ h c.half_up.ensures (omega (arith, c.if-d-rest.false)))
