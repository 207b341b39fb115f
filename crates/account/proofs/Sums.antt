-- Laws of figures as one thing: what one line adds at most, the test and the bound, no grams at all, the bound of more records, and one record added.
-- Assumes nothing.
use Prim.Native.Nat.{ℕ, ◌+◌, ◌*◌, ◌^◌, ◌≤◌}
use mathlib.Core.Path.{◌≡◌, refl}
use mathlib.Core.List.{List, [], ◌∷◌}
use mathlib.Core.Bool.{Bool, true}
use native.Mathlib.Omega.{arith}
use borrow.Author.Tests.{leb-true, le-leb, eqb-true, eq-eqb}
use lib.Dec.{leb, eqb}
use Rattle.base.proofs.Tests.{all-each, each_all}
use Rattle.grams.specs.Units.{Co2Within, co2_within}
use Rattle.grams.specs.declared.units.Co2.{Co2}
use Rattle.grams.specs.declared.units.Grazed.{Grazed}
use Rattle.grams.specs.declared.cattle.CattleManure.{CattleManure}
use Rattle.grams.specs.declared.pig.PigManure.{PigManure}
use Rattle.grams.proofs.Carbon.{within-true, within-test, within_none, within_more, within-plus}
use Rattle.account.specs.declared.Figures.{Figures}
use Rattle.account.specs.declared.Subtotal.{Subtotal}
use Rattle.account.specs.Figures.{no_figures, added, no_subtotal, grouped, ch4_alone, co2_alone, grazing_alone, cattle_figures, pig_figures}
use Rattle.account.specs.Range.{Bounded, Grouped, Ungrouped, bounded_test, grouped_test, ungrouped_test}
use Rattle.account.specs.Told.{Small}

-- ---- one line

pub ch4-small : (g : ℕ) → g ≤ 10 ^ 11 → Small (ch4_alone g)
ch4-small g h = record { ch4 = h; n2o = omega arith; co2 = within_none 1; excreted = omega arith; land = omega arith; grazing = omega arith }

pub co2-small : (g : Co2) → Co2Within 1 g → Small (co2_alone g)
co2-small g h = record { ch4 = omega arith; n2o = omega arith; co2 = h; excreted = omega arith; land = omega arith; grazing = omega arith }

pub cattle-small : (m : CattleManure) → m.n2o.0 ≤ 10 ^ 10 → m.excreted ≤ 10 ^ 11 → Small (cattle_figures m)
cattle-small m n e = record { ch4 = omega arith; n2o = n; co2 = within_none 1; excreted = e; land = omega arith; grazing = omega arith }

pub pig-small : (m : PigManure) → m.ch4 ≤ 10 ^ 11 → m.n2o.0 ≤ 10 ^ 10 → m.excreted ≤ 10 ^ 11 → m.land ≤ 10 ^ 11 → Small (pig_figures m)
pig-small m c n e l = record { ch4 = c; n2o = n; co2 = within_none 1; excreted = e; land = l; grazing = omega arith }

pub grazing-small : (g : Grazed) → g.0 ≤ 10 ^ 11 → Small (grazing_alone g)
grazing-small g h = record { ch4 = omega arith; n2o = omega arith; co2 = within_none 1; excreted = omega arith; land = omega arith; grazing = h }

-- ---- the sums

module _ (f : Figures) (records : ℕ) where
  abbrev bounded_rest : List Bool
  bounded_rest =
      leb f.n2o.0 (records * 10 ^ 10)
      ∷ co2_within records f.co2
      ∷ leb f.excreted (records * 10 ^ 11)
      ∷ leb f.land (records * 10 ^ 11)
      ∷ leb f.grazing.0 (records * 10 ^ 11)
      ∷ []

  pub bounded-parts : bounded_test f records ≡ true → Bounded f records
  bounded-parts e =
      let t = all-each (leb f.ch4 (records * 10 ^ 11)) bounded_rest e in
      record {
        ch4 = leb-true _ _ t.0;
        n2o = leb-true _ _ t.1.0;
        co2 = within-true f.co2 _ t.1.1.0;
        excreted = leb-true _ _ t.1.1.1.0;
        land = leb-true _ _ t.1.1.1.1.0;
        grazing = leb-true _ _ t.1.1.1.1.1.0;
      }

  pub bounded-test : Bounded f records → bounded_test f records ≡ true
  bounded-test b =
      each_all (leb f.ch4 (records * 10 ^ 11)) bounded_rest (le-leb _ _ b.ch4)
      (le-leb _ _ b.n2o, (within-test f.co2 _ b.co2, (le-leb _ _ b.excreted, (le-leb _ _ b.land, (le-leb _ _ b.grazing, tt)))))

pub bounded-none : (n : ℕ) → Bounded no_figures n
bounded-none n =
    record { ch4 = omega arith; n2o = omega arith; co2 = within_none n; excreted = omega arith; land = omega arith; grazing = omega arith }

pub bounded-more : {f : Figures} {n m : ℕ} → n ≤ m → Bounded f n → Bounded f m
bounded-more {f} h b =
    record {
      ch4 = omega arith;
      n2o = omega arith;
      co2 = within_more f.co2 _ _ h b.co2;
      excreted = omega arith;
      land = omega arith;
      grazing = omega arith;
    }

pub bounded-next : {f : Figures} {n : ℕ} → Bounded f n → Bounded f (n + 1)
bounded-next {f} {n} b = let h : n ≤ n + 1 = omega arith in bounded-more h b

pub bounded-added : {f g : Figures} {n : ℕ} → Bounded f n → Small g → Bounded (added f g) (n + 1)
bounded-added {f} {g} b s =
    record {
      ch4 = omega arith;
      n2o = omega arith;
      co2 = within-plus f.co2 g.co2 _ 1 b.co2 s.co2;
      excreted = omega arith;
      land = omega arith;
      grazing = omega arith;
    }

-- ---- a group's subtotal

module _ (s : Subtotal) where
  abbrev grouped_rest : ℕ → List Bool
  grouped_rest records = leb s.n2o.0 (records * 10 ^ 10) ∷ leb s.excreted (records * 10 ^ 11) ∷ leb s.land (records * 10 ^ 11) ∷ []

  pub grouped-parts : (records : ℕ) → grouped_test s records ≡ true → Grouped s records
  grouped-parts records e =
      let t = all-each (leb s.ch4 (records * 10 ^ 11)) (grouped_rest records) e in
      record { ch4 = leb-true _ _ t.0; n2o = leb-true _ _ t.1.0; excreted = leb-true _ _ t.1.1.0; land = leb-true _ _ t.1.1.1.0 }

  pub grouped-test : (records : ℕ) → Grouped s records → grouped_test s records ≡ true
  grouped-test records g =
      each_all (leb s.ch4 (records * 10 ^ 11)) (grouped_rest records) (le-leb _ _ g.ch4)
      (le-leb _ _ g.n2o, (le-leb _ _ g.excreted, (le-leb _ _ g.land, tt)))

  abbrev ungrouped_rest : List Bool
  ungrouped_rest = eqb s.n2o.0 0 ∷ eqb s.excreted 0 ∷ eqb s.land 0 ∷ []

  pub ungrouped-parts : ungrouped_test s ≡ true → Ungrouped s
  ungrouped-parts e =
      let t = all-each (eqb s.ch4 0) ungrouped_rest e in
      record { ch4 = eqb-true _ _ t.0; n2o = eqb-true _ _ t.1.0; excreted = eqb-true _ _ t.1.1.0; land = eqb-true _ _ t.1.1.1.0 }

  pub ungrouped-test : Ungrouped s → ungrouped_test s ≡ true
  ungrouped-test u =
      each_all (eqb s.ch4 0) ungrouped_rest (eq-eqb _ _ u.ch4) (eq-eqb _ _ u.n2o, (eq-eqb _ _ u.excreted, (eq-eqb _ _ u.land, tt)))

pub grouped-none : (n : ℕ) → Grouped no_subtotal n
grouped-none n = record { ch4 = omega arith; n2o = omega arith; excreted = omega arith; land = omega arith }

pub ungrouped-none : Ungrouped no_subtotal
ungrouped-none = record { ch4 = refl; n2o = refl; excreted = refl; land = refl }

-- nothing is within any bound
pub ungrouped-bounded : {s : Subtotal} (n : ℕ) → Ungrouped s → Grouped s n
ungrouped-bounded n u = record { ch4 = omega arith; n2o = omega arith; excreted = omega arith; land = omega arith }

pub grouped-more : {s : Subtotal} {n m : ℕ} → n ≤ m → Grouped s n → Grouped s m
grouped-more h b = record { ch4 = omega arith; n2o = omega arith; excreted = omega arith; land = omega arith }

pub grouped-next : {s : Subtotal} {n : ℕ} → Grouped s n → Grouped s (n + 1)
grouped-next {s} {n} b = let h : n ≤ n + 1 = omega arith in grouped-more h b

pub grouped-added : {s : Subtotal} {g : Figures} {n : ℕ} → Grouped s n → Small g → Grouped (grouped s g) (n + 1)
grouped-added b s = record { ch4 = omega arith; n2o = omega arith; excreted = omega arith; land = omega arith }
