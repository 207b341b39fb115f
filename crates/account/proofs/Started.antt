-- Stage, records and what the farm record set: the test is the range, in stage 1 it takes fewer steps, and they stay in range.
-- Assumes nothing.
use Prim.Native.Nat.{ℕ, ◌+◌, ◌≤◌, ◌<◌}
use mathlib.Core.Path.{◌≡◌, refl}
use mathlib.Core.List.{List, [], ◌∷◌}
use mathlib.Core.Bool.{Bool, true, ◌&&◌, ◌||◌, not}
use native.Mathlib.Omega.{arith}
use borrow.Author.Tests.{leb-true, le-leb, eqb-true, eq-eqb}
use lib.Dec.{leb, eqb}
use Rattle.base.proofs.Tests.{all-each, each_all, implied, implies, both_true, and_l, and_r, same_test}
use Rattle.account.specs.declared.Farm.{Farm}
use Rattle.account.specs.Account.{no_farm}
use Rattle.account.specs.Range.{Counted, FarmIn, Started, counted_test, started_test}
use Rattle.account.proofs.FarmSet.{farm-parts, farm-test, set_test, set-parts, set-test, farm-none, farm-next}

-- ---- the test and the range

module _ (stage records : ℕ) where
  abbrev counted_rest : List Bool
  counted_rest =
      leb records 4096
      ∷ (not (eqb stage 0) || eqb records 0)
      ∷ (not (eqb stage 1) || leb 1 records)
      ∷ (not (eqb stage 2) || leb 2 records)
      ∷ []

  counted-parts : counted_test stage records ≡ true → Counted stage records
  counted-parts e =
      let t = all-each (leb stage 3) counted_rest e in
      record {
        stage-most = leb-true _ _ t.0;
        records-most = leb-true _ _ t.1.0;
        in-zero = λ h. eqb-true _ _ (implied _ _ t.1.1.0 (eq-eqb _ _ h));
        in_one = λ h. leb-true _ _ (implied _ _ t.1.1.1.0 (eq-eqb _ _ h));
        in_two = λ h. leb-true _ _ (implied _ _ t.1.1.1.1.0 (eq-eqb _ _ h));
      }

  counted-test : Counted stage records → counted_test stage records ≡ true
  counted-test c =
      each_all (leb stage 3) counted_rest (le-leb _ _ c.stage-most) (
        le-leb _ _ c.records-most,
        (
          implies (eqb stage 0) (eqb records 0) (λ h. eq-eqb _ _ (c.in-zero (eqb-true _ _ h))),
          (
            implies (eqb stage 1) (leb 1 records) (λ h. le-leb _ _ (c.in_one (eqb-true _ _ h))),
            (implies (eqb stage 2) (leb 2 records) (λ h. le-leb _ _ (c.in_two (eqb-true _ _ h))), tt),
          ),
        ),
      )

module _ (stage records : ℕ) (f : Farm) where
  pub started-parts : started_test stage records f ≡ true → Started stage records f
  started-parts e =
      let p = farm-parts (counted_test stage records) f records e in
      record { counted = counted-parts stage records p.0; farm = p.1 }

  pub started-test : Started stage records f → started_test stage records f ≡ true
  started-test s = farm-test (counted_test stage records) f records (counted-test stage records s.counted) s.farm

-- ---- in stage 1: records are there, and not too many

module _ (records : ℕ) (f : Farm) where
  abbrev some : Bool
  some = leb 1 records && leb records 4096

  least : some ≡ true → 1 ≤ records
  least e = leb-true 1 records (and_l (leb 1 records) (leb records 4096) e)

  there : set_test some f ≡ true → started_test 1 records f ≡ true
  there e =
      let p = set-parts some f records least e in
      started-test 1 records f (record {
        counted =
            record {
              stage-most = omega arith;
              records-most = leb-true records 4096 (and_r (leb 1 records) (leb records 4096) p.0);
              in-zero = λ h. absurd (omega arith);
              in_one = λ h. least p.0;
              in_two = λ h. absurd (omega arith);
            };
        farm = p.1;
      })

  back : started_test 1 records f ≡ true → set_test some f ≡ true
  back e =
      let s = started-parts 1 records f e in
      let one = s.counted.in_one refl in
      set-test some f records one (both_true (leb 1 records) (leb records 4096) (le-leb _ _ one) (le-leb _ _ s.counted.records-most)) s.farm

  pub open_started : set_test some f ≡ started_test 1 records f
  open_started = same_test _ _ there back

-- ---- they stay in range

pub started_none : Started 0 0 no_farm
started_none =
    record {
      counted =
          record {
            stage-most = omega arith;
            records-most = omega arith;
            in-zero = λ e. refl;
            in_one = λ e. absurd (omega arith);
            in_two = λ e. absurd (omega arith);
          };
      farm = farm-none;
    }

pub started-refused : {stage records : ℕ} {f : Farm} → Started stage records f → Started 3 records f
started-refused s =
    record {
      counted =
          record {
            stage-most = omega arith;
            records-most = s.counted.records-most;
            in-zero = λ e. absurd (omega arith);
            in_one = λ e. absurd (omega arith);
            in_two = λ e. absurd (omega arith);
          };
      farm = s.farm;
    }

-- with the first record
pub started-opened : (records : ℕ) (f : Farm) → FarmIn f (records + 1) → records ≡ 0 → Started 1 (records + 1) f
started-opened records f i none =
    record {
      counted =
          record {
            stage-most = omega arith;
            records-most = omega arith;
            in-zero = λ e. absurd (omega arith);
            in_one = λ e. omega arith;
            in_two = λ e. absurd (omega arith);
          };
      farm = i;
    }

-- from the second record on
module _ {stage records : ℕ} {f : Farm} (s : Started stage records f) (begun : 1 ≤ records) (room : records < 4096) where
  pub started-next : stage < 2 → Started stage (records + 1) f
  started-next early =
      record {
        counted =
            record {
              stage-most = omega arith;
              records-most = omega arith;
              in-zero = λ e. let z = s.counted.in-zero e in absurd (omega arith);
              in_one = λ e. omega arith;
              in_two = λ e. absurd (omega arith);
            };
        farm = farm-next begun s.farm;
      }

  pub started-closed : Started 2 (records + 1) f
  started-closed =
      record {
        counted =
            record {
              stage-most = omega arith;
              records-most = omega arith;
              in-zero = λ e. absurd (omega arith);
              in_one = λ e. absurd (omega arith);
              in_two = λ e. omega arith;
            };
        farm = farm-next begun s.farm;
      }
