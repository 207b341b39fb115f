-- Laws of `shown` and `difference`: the ways to them.
use Rattle.std.proofs.Common.{◌≡◌, ℕ, ◌+◌, ◌-◌, ◌*◌, ◌^◌, ◌<◌, ◌≤◌, true, false, T, List, ◌∷◌, ◌++◌, pos, arith, ltb→lt, lt→ltb, le-ltb, lt-ltb, eq-eqb, ne_eqb}
use lib.Ieee.{Float, nan, inf, fin, binary64, round, up, down, lt, to_unsigned}
use lib.Ieee.Fits.{and_l, and_r, down_pos}
use Rattle.printing.specs.Decimal.{thousandths, Put}
use Rattle.printing.specs.Ascii.{ascii}
use Rattle.slip.specs.declared.Slip.{Slip}
use Rattle.std.specs.Prelude.{Option, Some, None}
use Rattle.whatif.specs.Shown.{scaled, showable, grams_of, grams_text, shown, spaced_shown, difference, compared}

-- what is below 10^15 is below 2^64
wider : (y : Float) → T (lt y (fin false 30517578125 (pos 15))) → T (lt y (fin false 1 (pos 64)))
unfolding lt
wider nan t = absurd t
wider (inf s) t = t
wider (fin true m e) t = lt→ltb 0 (m * up e * 1 + 1 * 2 ^ 64 * down e) (omega (arith, down_pos e))
wider (fin false m e) t =
    let h : m * up e * 1 < 30517578125 * 2 ^ 15 * down e = ltb→lt (m * up e * 1) (30517578125 * 2 ^ 15 * down e) t in
    lt→ltb (m * up e * 1) (1 * 2 ^ 64 * down e) (omega arith)

module _ (x : Float) where
  pub above : showable x ≡ true → T (lt (fin true 1 (pos 0)) (scaled x))
  above e = and_l (lt (fin true 1 (pos 0)) (scaled x)) (lt (scaled x) (round binary64 false 1000000000000000 1)) (rw e tt)

  pub below : showable x ≡ true → T (lt (scaled x) (fin false 1 (pos 64)))
  unfolding round
  below e = wider (scaled x) (and_r (lt (fin true 1 (pos 0)) (scaled x)) (lt (scaled x) (round binary64 false 1000000000000000 1)) (rw e tt))

  pub is-grams : (v : ℕ) → showable x ≡ true → v ≡ to_unsigned 64 (scaled x) → Some v ≡ grams_of x
  unfolding grams_of
  is-grams v e q = rw (e, q)

  pub no-grams : showable x ≡ false → None ≡ grams_of x
  unfolding grams_of
  no-grams e = rw e

  -- g is x in thousandths
  pub put-grams : {g h : Option ℕ} {xs zs : List ℕ} {at r : ℕ} → g ≡ grams_of x → g ≡ h → Put xs zs at (grams_text h) r → Put xs zs at (shown x) r
  put-grams is e p = rw (← is, e) p

-- a and b are two numbers in thousandths
module _ (x y : Float) {xs zs : List ℕ} {at r : ℕ} {a b : ℕ} (is_a : Some a ≡ grams_of x) (is_b : Some b ≡ grams_of y) where
  pub put-less : a < b → Put xs zs at (45 ∷ thousandths (b - a)) r → Put xs zs at (difference x y) r
  put-less h p = rw (← is_a, ← is_b, lt-ltb a b h) p

  pub put-more : b ≤ a → Put xs zs at (thousandths (a - b)) r → Put xs zs at (difference x y) r
  put-more h p = rw (← is_a, ← is_b, le-ltb a b h) p

-- a slip's code says whether there is a difference
module _ (s : Slip) (before : Float) {xs zs : List ℕ} {at r : ℕ} where
  pub put-dashes : (s.code ≡ 0 → ⊥) → Put xs zs at (ascii " - -") r → Put xs zs at (compared s before) r
  put-dashes n p = rw (ne_eqb s.code 0 n) p

  pub put_both : s.code ≡ 0 → Put xs zs at (spaced_shown before ++ (32 ∷ difference s.kg before)) r → Put xs zs at (compared s before) r
  put_both e p = rw (eq-eqb s.code 0 e) p
