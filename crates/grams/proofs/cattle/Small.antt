-- The bounds of the cattle figures, over their ranges: of each separately rounded part, and of a record's. Assumes nothing.
use Rattle.std.proofs.Common.{ℕ, ◌*◌, ◌^◌, ◌≤◌}
use Rattle.grams.specs.Cattle as cattle
use Rattle.grams.specs.Cattle.{EntericIn, CattleIn, enteric_of, kept_of}
use Rattle.grams.specs.declared.cattle.CattleRation.{CattleRation}
use Rattle.grams.proofs.Bounds.{◌⊗◌, ◌⊕◌, num, less, rounds}

-- ---- parts

module _ {x head days : ℕ} (p : x ≤ 3200000000) (h : head ≤ 20000) (d : days ≤ 366) where
  pub cattle-excreted-most : cattle.excreted_of x head days ≤ 10 ^ 11
  cattle-excreted-most = rounds _ _ (p ⊗ h ⊗ d) tt tt

module _ {n solid liquid : ℕ} (p : n ≤ 10 ^ 11) (s : solid ≤ 10000) (l : liquid ≤ 10000) where
  pub cattle-direct-most : (cattle.direct_of n solid liquid).0 ≤ 5 * 10 ^ 9
  cattle-direct-most = rounds _ _ (p ⊗ num _ ⊗ (s ⊕ l) ⊗ num _) tt tt

  pub cattle-indirect-most : (cattle.indirect_of n solid liquid).0 ≤ 5 * 10 ^ 9
  cattle-indirect-most = rounds _ _ (p ⊗ (num _ ⊗ s ⊕ num _ ⊗ l) ⊗ num _) tt tt

-- ---- a record's

pub enteric-small : {ge ym head days : ℕ} → EntericIn ge ym head days → enteric_of ge ym head days ≤ 10 ^ 11
unfolding enteric_of
enteric-small i = rounds _ _ (i.ge-in ⊗ i.ym-in ⊗ i.head_in ⊗ i.days-in) tt tt

module _ {r : CattleRation} {head : ℕ} (i : CattleIn r head) where
  pub cattle-excreted-small : (cattle.manure_of r head).excreted ≤ 10 ^ 11
  unfolding cattle.manure_of
  cattle-excreted-small = cattle-excreted-most (less (kept_of r) (num _ ⊗ i.feed-in ⊗ i.protein-in)) i.head_in i.days-in

  pub cattle-n2o-small : (cattle.manure_of r head).n2o.0 ≤ 10 ^ 10
  unfolding cattle.manure_of
  cattle-n2o-small =
      cattle-direct-most cattle-excreted-small i.solid-in i.liquid-in ⊕ cattle-indirect-most cattle-excreted-small i.solid-in i.liquid-in
