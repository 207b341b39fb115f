-- Laws of sorts and of kinds: what holds of each of the five sorts, and of each row of the table, holds of all.
-- Assumes nothing.
use Prim.Native.Nat.{ℕ, ◌≤◌}
use mathlib.Core.Path.{◌≡◌, refl, sym, ◌∙◌}
use mathlib.Core.Bool.{Bool, true, false, ◌||◌}
use native.Mathlib.Omega.{arith}
use borrow.Author.Tests.{eqb-true}
use lib.Dec.{eqb}
use Rattle.base.specs.Choice.{pick}
use Rattle.base.proofs.Tests.{by-test, no_bool}
use Rattle.codec.specs.Table.{last_kind}
use Rattle.account.specs.declared.sort.Sort.{Sort}
use Rattle.account.specs.declared.sort.Sort.TheVariants.{Opens, Heads, OfGroup, OfFarm, Closes}
use Rattle.account.specs.Sorts.{is_farm, sort_of, by_sort, is_of_group}

-- ---- sorts

-- what holds of all five holds of the choice
pub by-sort : {A : Type 0} (P : A → Type 0) (s : Sort) {o h g f c : A}
    → (s ≡ Opens → P o) → (s ≡ Heads → P h) → (s ≡ OfGroup → P g) → (s ≡ OfFarm → P f) → (s ≡ Closes → P c) → P (by_sort s o h g f c)
by-sort P Opens p q r t u = p refl
by-sort P Heads p q r t u = q refl
by-sort P OfGroup p q r t u = r refl
by-sort P OfFarm p q r t u = t refl
by-sort P Closes p q r t u = u refl

-- the farm records open, and no other
pub sort-farm : (k : ℕ) → is_farm k ≡ by_sort (sort_of k) true false false false false
unfolding sort_of
sort-farm k = go (is_farm k) (eqb k 2) (eqb k 3 || (eqb k 4 || (eqb k 5 || eqb k 10))) (eqb k 8)
  where
    go : (a b c d : Bool) → a ≡ by_sort (pick a Opens (pick b Heads (pick c OfGroup (pick d Closes OfFarm)))) true false false false false
    go true b c d = refl
    go false true c d = refl
    go false false true d = refl
    go false false false true = refl
    go false false false false = refl

-- only kind 2 heads
pub heads-two : (k : ℕ) → sort_of k ≡ Heads → k ≡ 2
unfolding sort_of
heads-two k e = go (is_farm k) (eqb k 2) (eqb k 3 || (eqb k 4 || (eqb k 5 || eqb k 10))) (eqb k 8) refl e
  where
    go : (a b c d : Bool) → eqb k 2 ≡ b → pick a Opens (pick b Heads (pick c OfGroup (pick d Closes OfFarm))) ≡ Heads → k ≡ 2
    go true b c d q e = let z : ◌≡◌ {A = ℕ} 0 1 = cc in absurd (omega arith)
    go false true c d q e = eqb-true _ _ q
    go false false true d q e = let z : ◌≡◌ {A = ℕ} 0 1 = cc in absurd (omega arith)
    go false false false true q e = let z : ◌≡◌ {A = ℕ} 0 1 = cc in absurd (omega arith)
    go false false false false q e = let z : ◌≡◌ {A = ℕ} 0 1 = cc in absurd (omega arith)

-- only kind 8 closes
pub closes-eight : (k : ℕ) → sort_of k ≡ Closes → k ≡ 8
unfolding sort_of
closes-eight k e = go (is_farm k) (eqb k 2) (eqb k 3 || (eqb k 4 || (eqb k 5 || eqb k 10))) (eqb k 8) refl e
  where
    go : (a b c d : Bool) → eqb k 8 ≡ d → pick a Opens (pick b Heads (pick c OfGroup (pick d Closes OfFarm))) ≡ Closes → k ≡ 8
    go true b c d q e = let z : ◌≡◌ {A = ℕ} 0 1 = cc in absurd (omega arith)
    go false true c d q e = let z : ◌≡◌ {A = ℕ} 0 1 = cc in absurd (omega arith)
    go false false true d q e = let z : ◌≡◌ {A = ℕ} 0 1 = cc in absurd (omega arith)
    go false false false true q e = eqb-true _ _ q
    go false false false false q e = let z : ◌≡◌ {A = ℕ} 0 1 = cc in absurd (omega arith)

-- the kinds of details are none of the others
pub other-kind : (k n : ℕ) → by_sort (sort_of k) false false true true false ≡ true → by_sort (sort_of n) false false true true false ≡ false
    → eqb k n ≡ false
other-kind k n d e = by-test (eqb k n) (λ q. no_bool (sym e ∙ (rw (eqb-true k n q) at d))) (λ q. q)

-- a detail of the farm is of none of the group's kinds
pub not-of-group : (k : ℕ) → sort_of k ≡ OfFarm → (eqb k 3 ≡ false) × ((eqb k 4 ≡ false) × ((eqb k 5 ≡ false) × (eqb k 10 ≡ false)))
unfolding sort_of
not-of-group k e = go (is_farm k) (eqb k 2) (eqb k 3) (eqb k 4) (eqb k 5) (eqb k 10) (eqb k 8) e
  where
    go : (a b c d f h g : Bool) → pick a Opens (pick b Heads (pick (c || (d || (f || h))) OfGroup (pick g Closes OfFarm))) ≡ OfFarm
        → (c ≡ false) × ((d ≡ false) × ((f ≡ false) × (h ≡ false)))
    go true b c d f h g e = let z : ◌≡◌ {A = ℕ} 0 1 = cc in absurd (omega arith)
    go false true c d f h g e = let z : ◌≡◌ {A = ℕ} 0 1 = cc in absurd (omega arith)
    go false false true d f h g e = let z : ◌≡◌ {A = ℕ} 0 1 = cc in absurd (omega arith)
    go false false false true f h g e = let z : ◌≡◌ {A = ℕ} 0 1 = cc in absurd (omega arith)
    go false false false false true h g e = let z : ◌≡◌ {A = ℕ} 0 1 = cc in absurd (omega arith)
    go false false false false false true g e = let z : ◌≡◌ {A = ℕ} 0 1 = cc in absurd (omega arith)
    go false false false false false false g e = (refl, (refl, (refl, refl)))

-- the kinds of a group's details lie between the heading and the last kind
pub group-kinds : (k : ℕ) → is_of_group k ≡ true → (3 ≤ k) × (k ≤ last_kind)
unfolding sort_of
group-kinds k g = go (is_farm k) (eqb k 2) (eqb k 3) (eqb k 4) (eqb k 5) (eqb k 10) (eqb k 8) refl refl refl refl g
  where
    go : (a b c d f h i : Bool) → eqb k 3 ≡ c → eqb k 4 ≡ d → eqb k 5 ≡ f → eqb k 10 ≡ h
        → by_sort (pick a Opens (pick b Heads (pick (c || (d || (f || h))) OfGroup (pick i Closes OfFarm)))) false false true false false ≡ true
        → (3 ≤ k) × (k ≤ last_kind)
    go true b c d f h i p q r s g = no_bool g
    go false true c d f h i p q r s g = no_bool g
    go false false true d f h i p q r s g = let e = eqb-true k 3 p in (omega (arith, e), omega (arith, e))
    go false false false true f h i p q r s g = let e = eqb-true k 4 q in (omega (arith, e), omega (arith, e))
    go false false false false true h i p q r s g = let e = eqb-true k 5 r in (omega (arith, e), omega (arith, e))
    go false false false false false true i p q r s g = let e = eqb-true k 10 s in (omega (arith, e), omega (arith, e))
    go false false false false false false true p q r s g = no_bool g
    go false false false false false false false p q r s g = no_bool g
