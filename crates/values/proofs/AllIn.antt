-- Every value in its range, as one test: the first has a lowest value, all others begin at 0.
-- Assumes nothing.
use Prim.Native.Nat.{ℕ, suc}
use mathlib.Core.Path.{◌≡◌, refl, sym}
use mathlib.Core.Bool.{Bool, true, false, ◌&&◌}
use mathlib.Core.List.{List, [], ◌∷◌}
use native.Mathlib.Omega.{arith}
use borrow.Author.Tests.{leb-true, le-leb, eqb-true, eq-eqb, ne_eqb}
use lib.Dec.{leb, eqb}
use lib.ListN.{length, get_or}
use Rattle.base.proofs.Tests.{no_bool, both, all_from, Each, all-each, each_all}
use Rattle.codec.specs.declared.Field.{Field}
use Rattle.codec.specs.Codec.{first_bad}
use Rattle.codec.proofs.Within.{Good, first-within, none-bad}

-- a test that is true exactly where n is 0
tells-zero : (b : Bool) (n : ℕ) → (b ≡ true → n ≡ 0) → (n ≡ 0 → b ≡ true) → b ≡ eqb n 0
tells-zero true n f g = rw (eq-eqb n 0 (f refl))
tells-zero false n f g = rw (ne_eqb n 0 (λ e. no_bool (g e)))

-- no value is above its highest
abbrev pub highs : List Field → List ℕ → ℕ → List Bool
highs [] vs i = []
highs (f ∷ fs) vs i = leb (get_or vs i 0) f.2 ∷ highs fs vs (suc i)

abbrev pub from_zero : List Field → Bool
from_zero [] = true
from_zero (f ∷ fs) = eqb f.1 0 && from_zero fs

all-good : (fs : List Field) (vs : List ℕ) (i : ℕ) → from_zero fs ≡ true → Each (highs fs vs i) → Good (length fs) fs vs i
all-good [] vs i z e = tt
all-good (f ∷ fs) vs i z e =
    let y = both (eqb f.1 0) (from_zero fs) z in
    let l : f.1 ≡ 0 = eqb-true _ _ y.0 in
    (omega arith, leb-true _ _ e.0, all-good fs vs (suc i) y.1 e.1)

good-all : (fs : List Field) (vs : List ℕ) (i : ℕ) → first_bad fs vs i ≡ 0 → Each (highs fs vs i)
good-all [] vs i p = tt
good-all (f ∷ fs) vs i p = let w = first-within f fs vs i p in (le-leb _ _ w.0.below, good-all fs vs (suc i) w.1)

module _ (f : Field) (fs : List Field) (v : List ℕ) (z : from_zero fs ≡ true) where
  abbrev tests : Bool
  tests = all_from (leb f.1 (get_or v 0 0)) (highs (f ∷ fs) v 0)

  all_in : tests ≡ true → first_bad (f ∷ fs) v 0 ≡ 0
  all_in h =
      let e = all-each (leb f.1 (get_or v 0 0)) (highs (f ∷ fs) v 0) h in
      let g : Good (suc (length fs)) (f ∷ fs) v 0 = (leb-true _ _ e.0, leb-true _ _ e.1.0, all-good fs v 1 z e.1.1) in
      sym (none-bad (suc (length fs)) (f ∷ fs) v 0 g (omega arith))

  each_in : first_bad (f ∷ fs) v 0 ≡ 0 → tests ≡ true
  each_in p =
      let w = first-within f fs v 0 p in
      each_all (leb f.1 (get_or v 0 0)) (highs (f ∷ fs) v 0) (le-leb _ _ w.0.above) (good-all (f ∷ fs) v 0 p)

  pub all_told : tests ≡ eqb (first_bad (f ∷ fs) v 0) 0
  all_told = tells-zero _ _ all_in each_in
