-- `grams::cattle::nitrogen` meets its contract. Assumes nothing.
use Rattle.std.proofs.Common.{◌≡◌, ℕ, ◌-◌, ◌*◌, ◌<◌, ◌≤◌, arith, rules, le-ltb, lt-ltb, None, Some}
use Rattle.grams.specs.Cattle.{CattleIn, fed_of, kept_of, below_zero, excreted_of, storage_of, manure_of, cattle_nitrogen_of}
use Rattle.grams.specs.declared.units.N2o.{N2o}
use Rattle.grams.specs.declared.cattle.CattleRation.{CattleRation}
use Rattle.grams.proofs.Bounds.{◌⊗◌, num}
use Rattle.grams.proofs.cattle.nitrogen.Goals as goal

-- what the products of a ration within its ranges reach
module _ {r : CattleRation} {head : ℕ} (p : CattleIn r head) where
  fed-room : 160 * r.feed * r.protein ≤ 3200000000
  fed-room = num _ ⊗ p.feed-in ⊗ p.protein-in

  milk-room : 157 * r.milk * r.milkprotein ≤ 1004800000
  milk-room = num _ ⊗ p.milk-in ⊗ p.milkprotein-in

-- the answer where milk and gain keep more
below-is : (r : CattleRation) (head : ℕ) → fed_of r < kept_of r → None ≡ cattle_nitrogen_of r head
unfolding below_zero
below-is r head p = simp (lt-ltb _ _ p)

-- the answer where the feed brings enough
given_is : (r : CattleRation) (head n : ℕ) (g : N2o) → kept_of r ≤ fed_of r → n ≡ excreted_of (fed_of r - kept_of r) head r.days
    → g ≡ storage_of n r.solid r.liquid → Some (record { excreted = n; n2o = g }) ≡ cattle_nitrogen_of r head
unfolding below_zero manure_of
given_is r head n g p e f = simp (le-ltb _ _ p) (cc)

pub returns-then-fed-kept : goal.returns-then-fed-kept
returns-then-fed-kept c = let a = c.args in
    record { exact = below-is a.r a.head c.if-fed-kept.true; small = tt }

pub returns : goal.returns
returns c = record { exact = search (rules, given_is); small = search rules }

pub overflow_mul-fed-2 : goal.overflow_mul-fed-2
overflow_mul-fed-2 c = omega (arith, fed-room)

pub overflow_mul-kept-2 : goal.overflow_mul-kept-2
overflow_mul-kept-2 c = omega (arith, milk-room)

pub overflow_add-kept : goal.overflow_add-kept
overflow_add-kept c = omega (arith, milk-room)

pub excreted-n-requires : goal.excreted-n-requires
excreted-n-requires c = omega (arith, fed-room)
