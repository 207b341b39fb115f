-- Figures, values and records in words, by their tests.
-- Assumes nothing.
use Prim.Native.Nat.{ℕ, suc, ◌+◌, ◌-◌, ◌*◌, ◌≤◌, ◌<◌}
use native.Mathlib.Omega.{arith}
use native.Mathlib.Numerals.{add-one}
use mathlib.Core.Path.{◌≡◌, refl}
use mathlib.Core.List.{List, [], ◌++◌}
use mathlib.Core.Bool.{Bool, true, false, ◌&&◌, ◌||◌, not}
use borrow.Author.Tests.{lt-ltb, le-ltb, leb-true}
use lib.ListN.{length, get_or}
use lib.Dec.{leb, eqb}
use Rattle.base.proofs.Tests.{not-true, not-false, and_r}
use Rattle.codec.specs.Codec.{val_at}
use Rattle.codec.specs.Table.{fields, size, last_row}
use Rattle.account.specs.Judge.{record_row}
use Rattle.printing.specs.Ascii.{ascii}
use Rattle.printing.specs.Decimal.{pointed}
use Rattle.compare.specs.Records.{Readable}
use Rattle.compare.specs.Figures.{has_sign, figure_of, kilograms, raised, change_text, figure_text, figures_from}
use Rattle.compare.specs.Values.{is_told, next_text, between_text, field_text, fields_from}

-- ---- one figure

module _ (line : List ℕ) (f : ℕ) where
  pub figure-none : length line < 6 + 8 * f + 8 → 0 ≡ figure_of line f
  unfolding figure_of
  figure-none h = rw (lt-ltb _ _ h) refl

  pub figure-some : (v : ℕ) → 6 + 8 * f + 8 ≤ length line → v ≡ val_at line (6 + 8 * f) 8 → v ≡ figure_of line f
  unfolding figure_of
  figure-some v h e = rw (le-ltb _ _ h) e

pub upper-half : (b : Bool) (w : ℕ) → b && leb 9223372036854775808 w ≡ true → 9223372036854775808 ≤ w
upper-half b w h = leb-true 9223372036854775808 w (and_r b (leb 9223372036854775808 w) h)

module _ (f w : ℕ) (b : Bool) (e : b ≡ has_sign f) where
  pub kilograms-below : (v : ℕ) → b && leb 9223372036854775808 w ≡ true → v ≡ 18446744073709551616 - w → kilograms f w ≡ ascii "-" ++ pointed 3 v
  unfolding kilograms
  kilograms-below v h q = rw (← e, h, q) refl

  pub kilograms-plain : b && leb 9223372036854775808 w ≡ false → kilograms f w ≡ pointed 3 w
  unfolding kilograms
  kilograms-plain h = rw (← e, h) refl

  pub raised-plain : not b ≡ true → w ≡ raised f w
  raised-plain h = rw (← e, not-true b h) refl

  pub raised-up : not b ≡ false → w < 9223372036854775808 → w + 9223372036854775808 ≡ raised f w
  raised-up h l = rw (← e, not-false b h, lt-ltb _ _ l) refl

  pub raised-down : not b ≡ false → 9223372036854775808 ≤ w → w - 9223372036854775808 ≡ raised f w
  raised-down h l = rw (← e, not-false b h, le-ltb _ _ l) refl

module _ (f x y a b : ℕ) (e : a ≡ raised f x) (g : b ≡ raised f y) where
  pub change-below : b < a → change_text f x y ≡ ascii "-" ++ pointed 3 (a - b)
  unfolding change_text
  change-below h = rw (← e, ← g, lt-ltb _ _ h) refl

  pub change-above : a ≤ b → change_text f x y ≡ ascii "+" ++ pointed 3 (b - a)
  unfolding change_text
  change-above h = rw (← e, ← g, le-ltb _ _ h) refl

-- ---- the figures of a line, one after the other

module _ (n f : ℕ) (alone : Bool) (s t : List ℕ) where
  pub one-figure : f < n
      → figures_from (n - f) alone f s t ≡ figure_text alone f (figure_of s f) (figure_of t f) ++ figures_from (n - (f + 1)) alone (f + 1) s t
  unfolding figures_from
  one-figure h = let left : n - f ≡ suc (n - (f + 1)) = omega arith in rw (left, add-one f) refl

  pub no-figure : n ≤ f → figures_from (n - f) alone f s t ≡ []
  unfolding figures_from
  no-figure h = let left : n - f ≡ 0 = omega arith in rw left refl

-- ---- values, one after the other

module _ (any alone : Bool) (row i v w : ℕ) where
  pub next-none : not (alone || not (eqb v w)) ≡ true → next_text any alone row i v w ≡ []
  unfolding next_text
  next-none h = rw (not-true (alone || not (eqb v w)) h) refl

  pub next-some : not (alone || not (eqb v w)) ≡ false → next_text any alone row i v w ≡ between_text any ++ field_text alone row i v w
  unfolding next_text
  next-some h = rw (not-false (alone || not (eqb v w)) h) refl

module _ (n i : ℕ) (any alone : Bool) (row : ℕ) (vs ws : List ℕ) where
  pub one_value : i < n
      → fields_from (n - i) any alone row i vs ws
      ≡ next_text any alone row i (get_or vs i 0) (get_or ws i 0)
      ++ fields_from (n - (i + 1)) (any || is_told alone (get_or vs i 0) (get_or ws i 0)) alone row (i + 1) vs ws
  unfolding fields_from
  one_value h = let left : n - i ≡ suc (n - (i + 1)) = omega arith in rw (left, add-one i) refl

  pub no_value : n ≤ i → fields_from (n - i) any alone row i vs ws ≡ []
  unfolding fields_from
  no_value h = let left : n - i ≡ 0 = omega arith in rw left refl

-- ---- a record's values are there

pub kind-there : (r : List ℕ) → Readable r → 4 ≤ length r
kind-there r h = omega (arith, h.long)

pub values-there : (r : List ℕ) (row : ℕ) → Readable r → row ≡ record_row r → (row ≤ last_row) × (4 + size (fields row) ≤ length r)
values-there r row h e = rw e (h.most, h.long)
