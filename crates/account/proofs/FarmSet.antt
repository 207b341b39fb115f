-- What the farm record set: the test is the range, with records it takes fewer steps, and it stays in range.
-- Assumes nothing.
use Prim.Native.Nat.{ℕ, zero, suc, ◌+◌, ◌≤◌}
use mathlib.Core.Path.{◌≡◌, refl}
use mathlib.Core.List.{List, [], ◌∷◌}
use mathlib.Core.Bool.{Bool, true, ◌&&◌, ◌||◌, not}
use native.Mathlib.Omega.{arith}
use borrow.Author.Tests.{leb-true, le-leb, eqb-true, eq-eqb}
use lib.ListN.{get_or}
use lib.Dec.{leb, eqb}
use Rattle.base.proofs.Tests.{all-each, each_all, implied, implies, of-choice}
use Rattle.codec.specs.Table.{table, fields, last_row}
use Rattle.codec.specs.Codec.{first_bad}
use Rattle.grams.specs.declared.farm.Factors.{Factors}
use Rattle.account.specs.declared.Farm.{Farm}
use Rattle.account.specs.Account.{no_farm, farm_of}
use Rattle.account.specs.Range.{FactorIn, FarmIn, factor_test}
use Rattle.account.proofs.Ranges.{good}

-- ---- the test and the range, behind any other test

module _ (factor records : ℕ) where
  abbrev factor_rest : List Bool
  factor_rest = (not (eqb factor 0) || eqb records 0) ∷ (not (eqb records 0) || eqb factor 0) ∷ []

  factor-parts : factor_test factor records ≡ true → FactorIn factor records
  factor-parts e =
      let t = all-each (leb factor 1000) factor_rest e in
      record {
        most = leb-true _ _ t.0;
        none = λ h. eqb-true _ _ (implied _ _ t.1.0 (eq-eqb _ _ h));
        some = λ h. eqb-true _ _ (implied _ _ t.1.1.0 (eq-eqb _ _ h));
      }

  factor-test : FactorIn factor records → factor_test factor records ≡ true
  factor-test w =
      each_all (leb factor 1000) factor_rest (le-leb _ _ w.most) (
        implies (eqb factor 0) (eqb records 0) (λ h. eq-eqb _ _ (w.none (eqb-true _ _ h))),
        (implies (eqb records 0) (eqb factor 0) (λ h. eq-eqb _ _ (w.some (eqb-true _ _ h))), tt),
      )

module _ (t : Bool) (f : Farm) (records : ℕ) where
  abbrev factor_tests : List Bool
  factor_tests = factor_test f.ch4 records ∷ factor_test f.n2o records ∷ []

  pub farm-parts : t && factor_test f.ch4 records && factor_test f.n2o records ≡ true → (t ≡ true) × FarmIn f records
  farm-parts e =
      let p = all-each t factor_tests e in
      (p.0, record { ch4 = factor-parts _ _ p.1.0; n2o = factor-parts _ _ p.1.1.0 })

  pub farm-test : t ≡ true → FarmIn f records → t && factor_test f.ch4 records && factor_test f.n2o records ≡ true
  farm-test e i = each_all t factor_tests e (factor-test _ _ i.ch4, (factor-test _ _ i.n2o, tt))

-- ---- with records

some-factor : (factor records : ℕ) → 1 ≤ records → 1 ≤ factor → factor ≤ 1000 → FactorIn factor records
some-factor factor records r low high = record { most = high; none = λ h. absurd (omega arith); some = λ h. absurd (omega arith) }

not_none : (n m : ℕ) → 1 ≤ n → (m ≡ 0 → n ≡ 0) → leb 1 m ≡ true
not_none n zero l h = let z = h refl in absurd (omega arith)
not_none n (suc m) l h = le-leb 1 (suc m) (omega arith)

module _ (t : Bool) (f : Farm) where
  abbrev pub set_test : Bool
  set_test = t && leb 1 f.ch4 && leb f.ch4 1000 && leb 1 f.n2o && leb f.n2o 1000

  abbrev set_tests : List Bool
  set_tests = leb 1 f.ch4 ∷ leb f.ch4 1000 ∷ leb 1 f.n2o ∷ leb f.n2o 1000 ∷ []

  pub set-parts : (records : ℕ) → (t ≡ true → 1 ≤ records) → set_test ≡ true → (t ≡ true) × FarmIn f records
  set-parts records some e =
      let p = all-each t set_tests e in (
        p.0,
        record {
          ch4 = some-factor _ _ (some p.0) (leb-true _ _ p.1.0) (leb-true _ _ p.1.1.0);
          n2o = some-factor _ _ (some p.0) (leb-true _ _ p.1.1.1.0) (leb-true _ _ p.1.1.1.1.0);
        },
      )

  pub set-test : (records : ℕ) → 1 ≤ records → t ≡ true → FarmIn f records → set_test ≡ true
  set-test records some e i =
      each_all t set_tests e (
        not_none records f.ch4 some i.ch4.none,
        (
          le-leb _ _ i.ch4.most,
          (not_none records f.n2o some i.n2o.none, (le-leb _ _ i.n2o.most, tt)),
        ),
      )

-- ---- it stays in range

pub farm-none : FarmIn no_farm 0
farm-none =
    record {
      ch4 = record { most = omega arith; none = λ e. refl; some = λ e. refl };
      n2o = record { most = omega arith; none = λ e. refl; some = λ e. refl };
    }

factor-on : (factor records : ℕ) → 1 ≤ records → FactorIn factor records → FactorIn factor (records + 1)
factor-on factor records begun f =
    record { most = f.most; none = λ e. let z = f.none e in absurd (omega arith); some = λ e. absurd (omega arith) }

pub farm-next : {f : Farm} {records : ℕ} → 1 ≤ records → FarmIn f records → FarmIn f (records + 1)
farm-next begun i = record { ch4 = factor-on _ _ begun i.ch4; n2o = factor-on _ _ begun i.n2o }

pub record FarmMost (f : Farm) : Type 0 where
  pub ch4 : f.ch4 ≤ 1000
  pub n2o : f.n2o ≤ 1000

pub farm-most : {f : Farm} {records : ℕ} → FarmIn f records → FarmMost f
farm-most i = record { ch4 = i.ch4.most; n2o = i.n2o.most }

-- ---- what a farm record sets

-- what a farm record of version 2 stores
pub record FactorsIn (v : List ℕ) : Type 0 where
  pub ch4-least : 1 ≤ get_or v 2 0
  pub ch4-most : get_or v 2 0 ≤ 1000
  pub n2o-least : 1 ≤ get_or v 3 0
  pub n2o-most : get_or v 3 0 ≤ 1000

pub factors-in : (v : List ℕ) → first_bad (fields last_row) v 0 ≡ 0 → FactorsIn v
unfolding table
factors-in v e =
    let g = good last_row v e in
    record { ch4-least = omega arith; ch4-most = omega arith; n2o-least = omega arith; n2o-most = omega arith }

-- with records it is in range
pub farm-opened : (k : ℕ) (v : List ℕ) (records : ℕ) → 1 ≤ records → first_bad (fields k) v 0 ≡ 0 → FarmIn (farm_of k v) records
farm-opened k v records some ranges =
    of-choice Set (eqb k last_row)
    (λ q. let i = factors-in v (rw (eqb-true k last_row q) at ranges) in both i.ch4-least i.ch4-most i.n2o-least i.n2o-most)
    (λ q. of-choice Set (eqb (get_or v 2 0) 1)
    (λ e. both (omega arith) (omega arith) (omega arith) (omega arith))
    (λ e. both (omega arith) (omega arith) (omega arith) (omega arith)))
  where
    Set : Factors → Type 0
    Set w = FarmIn (record { ch4 = w.ch4; n2o = w.n2o }) records

    both : {ch4 n2o : ℕ} → 1 ≤ ch4 → ch4 ≤ 1000 → 1 ≤ n2o → n2o ≤ 1000 → FarmIn (record { ch4 = ch4; n2o = n2o }) records
    both c1 c2 n1 n2 = record { ch4 = some-factor _ _ some c1 c2; n2o = some-factor _ _ some n1 n2 }
