-- Laws of columns: the sums of lists one after the other, and of bars that only rise.
-- Assumes nothing.
use Prim.Native.Nat.{ℕ, ◌+◌, ◌^◌, ◌<◌}
use mathlib.Core.Path.{◌≡◌, refl, sym, ap, ◌∙◌}
use mathlib.Core.List.{List, [], ◌∷◌, ◌++◌, map}
use native.Mathlib.Omega.{arith}
use borrow.Author.Tests.{lt-ltb}
use lib.IntN.{ℤ, pos, ◌+ℤ◌, pos-+ℤ-pos, +ℤ_assoc, +ℤ_idl}
use Rattle.base.specs.Signed.{signed_of}
use Rattle.page_sums.specs.Tables.{Bar, sum_by, signed_by}
use Rattle.page_sums.specs.InScale.{Cascade}

-- ---- lists one after the other

pub map-append : {A B : Type 0} (f : A → B) (xs ys : List A) → map f (xs ++ ys) ≡ map f xs ++ map f ys
map-append f [] ys = refl
map-append f (x ∷ xs) ys = ap (λ zs. f x ∷ zs) (map-append f xs ys)

pub sum-append : {A : Type 0} (f : A → ℕ) (xs ys : List A) → sum_by f (xs ++ ys) ≡ sum_by f xs + sum_by f ys
unfolding sum_by
sum-append f [] ys = omega arith
sum-append f (x ∷ xs) ys = let e = sum-append f xs ys in omega (arith, e)

-- one row more
pub sum_more : {A : Type 0} (f : A → ℕ) (xs : List A) (y : A) → sum_by f (xs ++ (y ∷ [])) ≡ sum_by f xs + f y
unfolding sum_by
sum_more f xs y = let e = sum-append f xs (y ∷ []) in omega (arith, e)

pub signed-append : {A : Type 0} (f : A → ℕ) (xs ys : List A) → signed_by f (xs ++ ys) ≡ signed_by f xs +ℤ signed_by f ys
unfolding signed_by
signed-append f [] ys = sym (+ℤ_idl (signed_by f ys))
signed-append f (x ∷ xs) ys =
    ap (λ (z : ℤ). signed_of (f x) +ℤ z) (signed-append f xs ys) ∙ sym (+ℤ_assoc (signed_of (f x)) (signed_by f xs) (signed_by f ys))

-- ---- bars that only rise

-- a word below 2^63 is the number itself
pub signed-plain : (w : ℕ) → w < 2 ^ 63 → signed_of w ≡ pos w
signed-plain w h = rw (lt-ltb w (2 ^ 63) h) refl

-- from one step to another, each bar by its CO2e, which is not below zero
abbrev pub Grows : ℕ → List Bar → ℕ → Type 0
Grows step [] end = step ≡ end
Grows step (b ∷ bs) end = (b.from ≡ step) × ((b.to ≡ step + b.co2e) × ((b.co2e < 2 ^ 63) × Grows b.to bs end))

pub grows-append : (step : ℕ) (bs cs : List Bar) (middle end : ℕ) → Grows step bs middle → Grows middle cs end → Grows step (bs ++ cs) end
grows-append step [] cs middle end g h = rw g h
grows-append step (b ∷ bs) cs middle end g h = (g.0, (g.1.0, (g.1.1.0, grows-append b.to bs cs middle end g.1.1.1 h)))

pub grows-sum : (step : ℕ) (bs : List Bar) (end : ℕ) → Grows step bs end → step + sum_by (λ (b : Bar). b.co2e) bs ≡ end
unfolding sum_by
grows-sum step [] end g = omega (arith, g)
grows-sum step (b ∷ bs) end g = let e = grows-sum b.to bs end g.1.1.1 in omega (arith, e, g.1.0)

pub grows-signed : (step : ℕ) (bs : List Bar) (end : ℕ) → Grows step bs end
    → signed_by (λ (b : Bar). b.co2e) bs ≡ pos (sum_by (λ (b : Bar). b.co2e) bs)
unfolding sum_by signed_by
grows-signed step [] end g = refl
grows-signed step (b ∷ bs) end g =
    let e = signed-plain b.co2e g.1.1.0 in
    let ih = grows-signed b.to bs end g.1.1.1 in
    rw (e, ih) (pos-+ℤ-pos b.co2e (sum_by (λ (b : Bar). b.co2e) bs))

pub grows-cascade : (step : ℕ) (bs cs : List Bar) (end : ℕ) → Grows step bs end → Cascade end cs → Cascade step (bs ++ cs)
grows-cascade step [] cs end g c = rw g c
grows-cascade step (b ∷ bs) cs end g c =
    let e : pos b.to ≡ pos step +ℤ signed_of b.co2e =
    rw (g.1.0, signed-plain b.co2e g.1.1.0) (sym (pos-+ℤ-pos step b.co2e)) in
    (g.0, (e, grows-cascade b.to bs cs end g.1.1.1 c))
