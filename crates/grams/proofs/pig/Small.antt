-- The bounds of the pig figures, over their ranges: of each separately rounded part, and of a record's. Assumes nothing.
use Rattle.std.proofs.Common.{ℕ, ◌*◌, ◌^◌, ◌≤◌, arith}
use Rattle.grams.specs.Pig as pig
use Rattle.grams.specs.Pig.{PigIn, record_nitrogen}
use Rattle.grams.specs.declared.pig.PigRation.{PigRation}
use Rattle.grams.proofs.Bounds.{◌⊗◌, ◌⊕◌, num, less, rounds}

-- ---- parts

module _ {feed vs vsfactor : ℕ} (f : feed ≤ 1000) (v : vs ≤ 5000) (k : vsfactor ≤ 2000) where
  pub pig-solids-most : pig.solids_of feed vs vsfactor ≤ 10 ^ 7
  pig-solids-most = rounds _ _ (f ⊗ v ⊗ k) tt tt

module _ {v mcf head days : ℕ} (p : v ≤ 10 ^ 7) (m : mcf ≤ 1000) (h : head ≤ 20000) (d : days ≤ 366) where
  pub pig-ch4-most : pig.ch4_of v mcf head days ≤ 10 ^ 11
  pig-ch4-most = rounds _ _ (p ⊗ m ⊗ h ⊗ d ⊗ num _) tt tt

module _ {feed protein nfactor head days : ℕ} (f : feed ≤ 1000) (p : protein ≤ 4000) (k : nfactor ≤ 2000) (h : head ≤ 20000) (d : days ≤ 366) where
  pub pig-nitrogen-most : pig.pig_nitrogen_of feed protein nfactor head days ≤ 7 * 10 ^ 9
  pig-nitrogen-most = rounds _ _ (f ⊗ p ⊗ k ⊗ h ⊗ d ⊗ num _) tt tt

module _ {n : ℕ} (p : n ≤ 7 * 10 ^ 9) where
  pub pig-direct-most : {ef : ℕ} → ef ≤ 10000 → (pig.direct_of n ef).0 ≤ 5 * 10 ^ 9
  pig-direct-most e = rounds _ _ (p ⊗ e ⊗ num _) tt tt

  pub pig-indirect-most : {volatilised volatilisedef leached leachedef : ℕ} → volatilised ≤ 1000 → volatilisedef ≤ 10000 → leached ≤ 1000
      → leachedef ≤ 10000 → (pig.indirect_of n volatilised volatilisedef leached leachedef).0 ≤ 5 * 10 ^ 9
  pig-indirect-most v e l f = rounds _ _ (p ⊗ (v ⊗ e ⊕ l ⊗ f) ⊗ num _) tt tt

  pub pig-land-most : (volatilised leached : ℕ) → pig.land_of n volatilised leached ≤ 7 * 10 ^ 9
  pig-land-most volatilised leached = rounds _ _ (p ⊗ less leached (less volatilised (num _))) tt tt

-- ---- a record's

module _ {p : PigRation} {head : ℕ} (i : PigIn p head) where
  nitrogen-most : record_nitrogen p head ≤ 7 * 10 ^ 9
  nitrogen-most = pig-nitrogen-most i.feed-in i.protein-in i.nfactor-in i.head_in i.days-in

  pub pig-ch4-small : (pig.manure_of p head).ch4 ≤ 10 ^ 11
  unfolding pig.manure_of
  pig-ch4-small = pig-ch4-most (pig-solids-most i.feed-in i.vs-in i.vsfactor-in) i.mcf-in i.head_in i.days-in

  pub pig-n2o-small : (pig.manure_of p head).n2o.0 ≤ 10 ^ 10
  unfolding pig.manure_of
  pig-n2o-small =
      pig-direct-most nitrogen-most i.direct-in
      ⊕ pig-indirect-most nitrogen-most (omega arith) i.volatilisedef-in (omega arith) i.leachedef-in

  pub pig-excreted-small : (pig.manure_of p head).excreted ≤ 10 ^ 11
  unfolding pig.manure_of
  pig-excreted-small = omega (arith, nitrogen-most)

  pub pig-land-small : (pig.manure_of p head).land ≤ 10 ^ 11
  unfolding pig.manure_of
  pig-land-small = omega (arith, pig-land-most nitrogen-most p.volatilised p.leached)
