-- Laws of tests: what holds of a choice, and what a conjunction of tests says of each.
-- Assumes nothing.
use Prim.Native.Nat.{ℕ, ◌≤◌, ◌<◌}
use mathlib.Core.Path.{◌≡◌, refl, sym}
use mathlib.Core.List.{List, [], ◌∷◌}
use mathlib.Core.Bool.{Bool, true, false, ◌&&◌, ◌||◌, not}
use mathlib.Core.Logic.{◌⊎◌, inl, inr}
use native.Mathlib.Omega.{arith}
use borrow.Author.Tests.{ltb-true, ltb-false}
use lib.Dec.{ltb}
use Rattle.base.specs.Choice.{pick}

-- by cases on a test, with what it tells
pub by-test : {P : Type 0} (b : Bool) → (b ≡ true → P) → (b ≡ false → P) → P
by-test true f g = f refl
by-test false f g = g refl

-- what holds of both branches holds of the choice
pub of-choice : {A : Type 0} (P : A → Type 0) (b : Bool) {x y : A} → (b ≡ true → P x) → (b ≡ false → P y) → P (pick b x y)
of-choice P true f g = f refl
of-choice P false f g = g refl

-- no two constructors of Bool are equal
pub no_bool : {A : Type 0} → false ≡ true → A
no_bool e = let z : ◌≡◌ {A = ℕ} 0 1 = cc in absurd (omega arith)

-- either way round
pub true-or-false : (b : Bool) → (b ≡ true) ⊎ (b ≡ false)
true-or-false true = inl refl
true-or-false false = inr refl

pub lt-or-ge : (a b : ℕ) → (a < b) ⊎ (b ≤ a)
lt-or-ge a b = go (ltb a b) refl
  where
    go : (t : Bool) → ltb a b ≡ t → (a < b) ⊎ (b ≤ a)
    go true e = inl (ltb-true a b e)
    go false e = inr (ltb-false a b e)

-- ---- not, and, or

pub not-true : (b : Bool) → not b ≡ true → b ≡ false
not-true true e = no_bool e
not-true false e = refl

pub not-false : (b : Bool) → not b ≡ false → b ≡ true
not-false true e = refl
not-false false e = no_bool (sym e)

pub and_l : (a b : Bool) → a && b ≡ true → a ≡ true
and_l true b e = refl
and_l false b e = e

pub and_r : (a b : Bool) → a && b ≡ true → b ≡ true
and_r true b e = e
and_r false b e = no_bool e

pub both : (a b : Bool) → a && b ≡ true → (a ≡ true) × (b ≡ true)
both true b e = (refl, e)
both false b e = no_bool e

pub both_true : (a b : Bool) → a ≡ true → b ≡ true → a && b ≡ true
both_true a b e f = rw (e, f)

-- two tests that say each other are the same
pub same_test : (a b : Bool) → (a ≡ true → b ≡ true) → (b ≡ true → a ≡ true) → a ≡ b
same_test true true f g = refl
same_test true false f g = sym (f refl)
same_test false true f g = g refl
same_test false false f g = refl

pub and-true : (a : Bool) → a && true ≡ a
and-true true = refl
and-true false = refl

pub and-false : (a : Bool) → a && false ≡ false
and-false true = refl
and-false false = refl

pub neither : (a b : Bool) → a || b ≡ false → (a ≡ false) × (b ≡ false)
neither true b e = no_bool (sym e)
neither false b e = (refl, e)

-- a conjunction that fails although its first part holds fails by its second
pub and_no : (a b : Bool) → a && b ≡ false → a ≡ true → b ≡ false
and_no true b e f = e
and_no false b e f = no_bool f

pub or_l : (a b : Bool) → a || b ≡ false → a ≡ false
or_l true b e = e
or_l false b e = refl

pub or_r : (a b : Bool) → a || b ≡ false → b ≡ false
or_r true b e = no_bool (sym e)
or_r false b e = e

pub or_right : (a b : Bool) → a || b ≡ true → a ≡ false → b ≡ true
or_right true b e f = no_bool (sym f)
or_right false b e f = e

pub or_left : (a b : Bool) → (a ≡ false → b ≡ true) → a || b ≡ true
or_left true b f = refl
or_left false b f = f refl

pub or_cases : (a b : Bool) → a || b ≡ true → (a ≡ true) ⊎ (b ≡ true)
or_cases true b e = inl refl
or_cases false b e = inr e

-- "where a, then b" as a test
pub implied : (a b : Bool) → not a || b ≡ true → a ≡ true → b ≡ true
implied true b e f = e
implied false b e f = no_bool f

pub implies : (a b : Bool) → (a ≡ true → b ≡ true) → not a || b ≡ true
implies true b f = f refl
implies false b f = refl

-- ---- a chain of conjunctions

abbrev pub all_from : Bool → List Bool → Bool
all_from a [] = a
all_from a (b ∷ bs) = all_from (a && b) bs

abbrev pub Each : List Bool → Type 0
Each [] = Unit {0}
Each (b ∷ bs) = (b ≡ true) × Each bs

pub all-each : (a : Bool) (bs : List Bool) → all_from a bs ≡ true → (a ≡ true) × Each bs
all-each a [] e = (e, tt)
all-each a (b ∷ bs) e = let r = all-each (a && b) bs e in (and_l a b r.0, (and_r a b r.0, r.1))

pub each_all : (a : Bool) (bs : List Bool) → a ≡ true → Each bs → all_from a bs ≡ true
each_all a [] p q = p
each_all a (b ∷ bs) p q = let h : a && b ≡ true = simp (p, q.0) in each_all (a && b) bs h q.1
