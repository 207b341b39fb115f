-- Laws of the first value out of its range, over any row of fields.
-- Assumes nothing.
use mathlib.Core.Path.{◌≡◌, refl, sym, ap, ◌∙◌}
use mathlib.Core.Bool.{Bool, true, false}
use mathlib.Core.List.{List, [], ◌∷◌, map}
use Prim.Native.Nat.{ℕ, zero, suc, ◌+◌, ◌<◌, ◌≤◌, suc-le-suc}
use native.Mathlib.Omega.{arith}
use native.Mathlib.Nat.{add-zero, add-suc, suc-add, not-suc-le-zero, le_of_suc-le-suc}
use borrow.Author.Tests.{leb-true, le-leb, lt-leb}
use lib.Dec.{leb}
use lib.ListN.{length, get_or, drop, drop_of_length-le}
use lib.Seq.{drop-cons}
use Rattle.base.specs.Choice.{pick}
use Rattle.codec.specs.declared.Field.{Field}
use Rattle.codec.specs.Table.{field}
use Rattle.codec.specs.Codec.{first_bad}

-- what stands at a place where no field is
abbrev pub none : Field
none = field 0 0 0

-- a number of a field stands where the field stands
pub of_field : (g : Field → ℕ) (z : 0 ≡ g none) (fs : List Field) (i : ℕ) → get_or (map g fs) i 0 ≡ g (get_or fs i none)
of_field g z [] i = z
of_field g z (f ∷ fs) zero = refl
of_field g z (f ∷ fs) (suc i) = of_field g z fs i

pub record Within (f : Field) (v : ℕ) : Type 0 where
  pub above : f.1 ≤ v
  pub below : v ≤ f.2

head_ok : (f : Field) (v r i : ℕ) (a b : Bool) → leb f.1 v ≡ a → leb v f.2 ≡ b → pick a (pick b r (suc i)) (suc i) ≡ 0 → Within f v × (r ≡ 0)
head_ok f v r i true true d e p = (record { above = leb-true _ _ d; below = leb-true _ _ e }, p)
head_ok f v r i true false d e p = absurd (omega arith)
head_ok f v r i false b d e p = absurd (omega arith)

-- where no value is out of its range, the first is in it, and no other is out of its own
pub first-within : (f : Field) (fs : List Field) (vs : List ℕ) (i : ℕ) → first_bad (f ∷ fs) vs i ≡ 0
    → Within f (get_or vs i 0) × (first_bad fs vs (suc i) ≡ 0)
unfolding first_bad
first-within f fs vs i p = head_ok f (get_or vs i 0) (first_bad fs vs (suc i)) i (leb f.1 (get_or vs i 0)) (leb (get_or vs i 0) f.2) refl refl p

-- and so each is in its range
pub ranges : (vs : List ℕ) (fs : List Field) (i : ℕ) → first_bad fs vs i ≡ 0 → (j : ℕ) → j < length fs → Within (get_or fs j none) (get_or vs (i + j) 0)
ranges vs [] i p j h = absurd (not-suc-le-zero h)
ranges vs (f ∷ fs) i p zero h = rw add-zero (first-within f fs vs i p).0
ranges vs (f ∷ fs) i p (suc j) h = rw (add-suc, ← suc-add) (ranges vs fs (suc i) (first-within f fs vs i p).1 j (le_of_suc-le-suc h))

-- the converse
pub no-bad : (vs : List ℕ) (fs : List Field) (i : ℕ) → ((j : ℕ) → j < length fs → Within (get_or fs j none) (get_or vs (i + j) 0)) → first_bad fs vs i ≡ 0
unfolding first_bad
no-bad vs [] i h = refl
no-bad vs (f ∷ fs) i h =
    let o : Within f (get_or vs i 0) = rw add-zero at (h 0 (omega arith)) in
    rw (le-leb _ _ o.above, le-leb _ _ o.below) (no-bad vs fs (suc i) (λ j k. rw (suc-add, ← add-suc) (h (suc j) (suc-le-suc k))))

pick-le : (a b : Bool) (r m n : ℕ) → r ≤ n → m ≤ n → pick a (pick b r m) m ≤ n
pick-le true true r m n h k = h
pick-le true false r m n h k = k
pick-le false b r m n h k = k

-- the position is one of the fields'
pub bad-position : (fs : List Field) (vs : List ℕ) (i : ℕ) → first_bad fs vs i ≤ i + length fs
unfolding first_bad
bad-position [] vs i = omega arith
bad-position (f ∷ fs) vs i =
    pick-le (leb f.1 (get_or vs i 0)) (leb (get_or vs i 0) f.2) _ _ _ (omega (arith, bad-position fs vs (suc i))) (omega arith)

-- ---- what a chain of tests has found out

-- the first n values, from i on, are in their ranges
abbrev pub Good : ℕ → List Field → List ℕ → ℕ → Type 0
Good zero fs vs i = Unit
Good (suc n) [] vs i = Unit
Good (suc n) (f ∷ fs) vs i = (f.1 ≤ get_or vs i 0) × (get_or vs i 0 ≤ f.2) × Good n fs vs (suc i)

-- then the first out of its range is among those after them
pub passed : (n : ℕ) (fs : List Field) (vs : List ℕ) (i : ℕ) → Good n fs vs i → first_bad fs vs i ≡ first_bad (drop n fs) vs (i + n)
unfolding first_bad
passed zero fs vs i g = rw add-zero
passed (suc n) [] vs i g = refl
passed (suc n) (f ∷ fs) vs i g = rw (le-leb _ _ g.0, le-leb _ _ g.1, add-suc, ← suc-add) (passed n fs vs (suc i) g.2)

same-both : (b : Bool) (m : ℕ) → pick b m m ≡ m
same-both true m = refl
same-both false m = refl

module _ (n : ℕ) (fs : List Field) (vs : List ℕ) (i : ℕ) (g : Good n fs vs i) where
  -- the value after them is below its lowest
  pub too-low : n < length fs → get_or vs (i + n) 0 < (get_or fs n none).1 → suc (i + n) ≡ first_bad fs vs i
  unfolding first_bad
  too-low h l = sym (passed n fs vs i g ∙ ap (λ k. first_bad k vs (i + n)) (drop-cons fs n none h) ∙ rw (lt-leb _ _ l))

  -- the value after them is above its highest
  pub too-high : n < length fs → (get_or fs n none).2 < get_or vs (i + n) 0 → suc (i + n) ≡ first_bad fs vs i
  unfolding first_bad
  too-high h l = sym (passed n fs vs i g ∙ ap (λ k. first_bad k vs (i + n)) (drop-cons fs n none h) ∙ rw (lt-leb _ _ l, same-both))

  -- there is no value after them
  pub none-bad : length fs ≤ n → 0 ≡ first_bad fs vs i
  unfolding first_bad
  none-bad h = sym (passed n fs vs i g ∙ ap (λ k. first_bad k vs (i + n)) (drop_of_length-le fs h))
