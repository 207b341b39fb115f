-- What wrong versions would give: each differs from the slip at a ration that is written out here.
use mathlib.Core.Path.{◌≡◌, refl}
use mathlib.Core.List.{List, [], ◌∷◌}
use mathlib.Core.Bool.{Bool, true, false, not, ◌&&◌}
use Prim.Native.Nat.{ℕ}
use native.Mathlib.Omega.{arith}
use lib.IntN.{ℤ, pos}
use lib.Dec.{T, eqb}
use lib.Ieee.{Float, nan, inf, fin, binary64, round, of_bits, to_bits, mul, div, lt, eq, le, of_int}
use Rattle.slip.specs.Slip.{double, ◌⊗◌, ◌⊘◌, +0, kg_ch4, within}
use Rattle.slip.specs.declared.Ration.{Ration}

at : Ration
at = record { ge = double 3995 10; ym = double 189 10; head = double 2281 1; days = 132 }

-- head before Ym; the 100 after GE × Ym; 55.65 before head and days; Ym × 0.01; days before head; the double above 55.65's
wrongs : Ration → List Float
wrongs r =
    let d = of_int binary64 (pos r.days) in
    let k = double 5565 100 in
    ((((r.ge ⊗ r.head) ⊗ (r.ym ⊘ double 100 1)) ⊗ d) ⊘ k)
    ∷ (((((r.ge ⊗ r.ym) ⊘ double 100 1) ⊗ r.head) ⊗ d) ⊘ k)
    ∷ ((((r.ge ⊗ (r.ym ⊘ double 100 1)) ⊘ k) ⊗ r.head) ⊗ d)
    ∷ ((((r.ge ⊗ (r.ym ⊗ double 1 100)) ⊗ r.head) ⊗ d) ⊘ k)
    ∷ ((((r.ge ⊗ (r.ym ⊘ double 100 1)) ⊗ d) ⊗ r.head) ⊘ k)
    ∷ ((((r.ge ⊗ (r.ym ⊘ double 100 1)) ⊗ r.head) ⊗ d) ⊘ of_bits binary64 0x404b_d333_3333_3334)
    ∷ []

none_is : ℕ → List Float → Bool
none_is b [] = true
none_is b (x ∷ xs) = not (eqb b (to_bits binary64 x)) && none_is b xs

all-differ : T (none_is (to_bits binary64 (kg_ch4 at)) (wrongs at))
unfolding kg_ch4 to_bits round at mul div of_int of_bits wrongs none_is
all-differ = tt

-- a range test by what is not outside lets a NaN pass
loose : Float → Float → Float → Bool
loose lo hi x = not (lt x lo) && not (lt hi x)

nan-passes : loose (double 1 1) (double 1000 1) nan ≡ true
unfolding loose lt round
nan-passes = refl

-- the slip's test refuses it, and the infinities too
nan-refused : (lo hi : Float) → within lo hi nan ≡ false
unfolding le
nan-refused nan hi = refl
nan-refused (inf s) hi = refl
nan-refused (fin s m e) hi = refl

infinity-refused : (m n : ℕ) (e d : ℤ) (s : Bool) → within (fin false m e) (fin false n d) (inf s) ≡ false
unfolding le lt eq
infinity-refused m n e d true = refl
infinity-refused m n e d false = refl

-- the two zeros are told apart
zeros_differ : to_bits binary64 +0 ≡ to_bits binary64 (fin true 0 (pos 0)) → ⊥
unfolding to_bits
zeros_differ e = let z : ◌≡◌ {A = ℕ} 0 0x8000_0000_0000_0000 = e in omega arith
