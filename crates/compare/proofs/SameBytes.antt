-- Laws of the test for the same bytes, and a record's kind.
-- Assumes nothing.
use Prim.Native.Nat.{ℕ}
use mathlib.Core.Path.{◌≡◌, refl, sym, ap, ◌∙◌}
use mathlib.Core.List.{List, [], ◌∷◌}
use mathlib.Core.Bool.{Bool, true, false, ◌&&◌}
use native.Mathlib.Omega.{arith}
use borrow.Author.Tests.{eqb-true, eq-eqb}
use lib.Dec.{eqb}
use lib.Pointwise.{pointwise}
use Rattle.base.proofs.Tests.{and_l, and_r, no_bool}
use Rattle.codec.specs.Codec.{val_at}
use Rattle.account.specs.declared.sort.Sort.{Sort}
use Rattle.account.specs.Sorts.{sort_of, by_sort}
use Rattle.account.specs.Judge.{kind_byte, record_row}
use Rattle.promises.specs.WholeLines.{is_detail}
use Rattle.compare.specs.Records.{same}

-- bytes are the same as themselves,
pub same_self : (xs : List ℕ) → same xs xs ≡ true
unfolding same
same_self [] = refl
same_self (x ∷ xs) = rw (eq-eqb x x refl, same_self xs) refl

-- and what is the same is equal
pub same_true : (xs ys : List ℕ) → same xs ys ≡ true → xs ≡ ys
unfolding same
same_true [] [] e = refl
same_true [] (y ∷ ys) e = no_bool e
same_true (x ∷ xs) [] e = no_bool e
same_true (x ∷ xs) (y ∷ ys) e =
    let p = eqb-true x y (and_l (eqb x y) (same xs ys) e) in
    rw (p, same_true xs ys (and_r (eqb x y) (same xs ys) e)) refl

pub same_false : (xs ys : List ℕ) → same xs ys ≡ false → xs ≡ ys → ⊥
same_false xs ys e q = let z : true ≡ false = sym (same_self ys) ∙ (rw q at e) in no_bool (sym z)

-- std's test of two slices, pair by pair, is this one
pub pointwise-same : (xs ys : List ℕ) → pointwise eqb xs ys ≡ same xs ys
unfolding same
pointwise-same [] [] = refl
pointwise-same [] (y ∷ ys) = refl
pointwise-same (x ∷ xs) [] = refl
pointwise-same (x ∷ xs) (y ∷ ys) = ap (λ (b : Bool). eqb x y && b) (pointwise-same xs ys)

-- the code reads it
pub kind-byte : (k : ℕ) (r : List ℕ) → k ≡ val_at r 3 1 → k ≡ kind_byte r
unfolding val_at
kind-byte k r e = omega (arith, e)

-- ---- a detail, as the code finds it

-- t is the sort of the row of r
pub detail-by : (s t : Sort) (row : ℕ) (r : List ℕ) → s ≡ sort_of row → row ≡ record_row r → s ≡ t
    → by_sort t false false true true false ≡ is_detail r
detail-by s t row r e k q = rw (← q, e, k) refl
