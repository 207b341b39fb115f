-- The refusal of stage 3, or none: the test is the range, and it stays.
-- Assumes nothing.
use Prim.Native.Nat.{ℕ, ◌≤◌, ◌<◌}
use mathlib.Core.Path.{◌≡◌, refl}
use mathlib.Core.List.{List, [], ◌∷◌}
use mathlib.Core.Bool.{Bool, true, ◌||◌, not}
use native.Mathlib.Omega.{arith}
use borrow.Author.Tests.{leb-true, le-leb, eqb-true, eqb-false, eq-eqb, ne_eqb}
use lib.Dec.{leb, eqb}
use Rattle.base.proofs.Tests.{all-each, each_all, and_l, and_r, implied, implies, or_left, or_right, both_true, by-test}
use Rattle.account.specs.declared.Refusal.{Refusal}
use Rattle.account.specs.Range.{Numbered, Unrefused, Ended, numbered_test, unrefused_test, ended_test}

-- ---- the test and the range

module _ (r : Refusal) where
  abbrev numbered_rest : ℕ → List Bool
  numbered_rest records =
      leb r.code 12
      ∷ eqb r.accepted records
      ∷ leb r.field 12
      ∷ (not (eqb r.code 7) || leb 1 r.field)
      ∷ (eqb r.code 7 || eqb r.field 0)
      ∷ []

  numbered-parts : (records : ℕ) → numbered_test r records ≡ true → Numbered r records
  numbered-parts records e =
      let t = all-each (leb 1 r.code) (numbered_rest records) e in
      record {
        code-least = leb-true _ _ t.0;
        code-most = leb-true _ _ t.1.0;
        accepted = eqb-true _ _ t.1.1.0;
        field-most = leb-true _ _ t.1.1.1.0;
        field-some = λ h. leb-true _ _ (implied _ _ t.1.1.1.1.0 (eq-eqb _ _ h));
        field-none = λ h. eqb-true _ _ (or_right _ _ t.1.1.1.1.1.0 (ne_eqb _ _ h));
      }

  numbered-test : (records : ℕ) → Numbered r records → numbered_test r records ≡ true
  numbered-test records n =
      each_all (leb 1 r.code) (numbered_rest records) (le-leb _ _ n.code-least) (
        le-leb _ _ n.code-most,
        (
          eq-eqb _ _ n.accepted,
          (
            le-leb _ _ n.field-most,
            (
              implies (eqb r.code 7) (leb 1 r.field) (λ h. le-leb _ _ (n.field-some (eqb-true _ _ h))),
              (or_left (eqb r.code 7) (eqb r.field 0) (λ h. eq-eqb _ _ (n.field-none (eqb-false _ _ h))), tt),
            ),
          ),
        ),
      )

  unrefused-parts : unrefused_test r ≡ true → Unrefused r
  unrefused-parts e =
      let t = all-each (eqb r.code 0) (eqb r.accepted 0 ∷ eqb r.field 0 ∷ []) e in
      record { code = eqb-true _ _ t.0; accepted = eqb-true _ _ t.1.0; field = eqb-true _ _ t.1.1.0 }

  unrefused-test : Unrefused r → unrefused_test r ≡ true
  unrefused-test u =
      each_all (eqb r.code 0) (eqb r.accepted 0 ∷ eqb r.field 0 ∷ []) (eq-eqb _ _ u.code)
      (eq-eqb _ _ u.accepted, (eq-eqb _ _ u.field, tt))

  module _ (stage records : ℕ) where
    abbrev refusal : Bool
    refusal = not (eqb stage 3) || numbered_test r records

    abbrev none : Bool
    none = eqb stage 3 || unrefused_test r

    pub ended-parts : ended_test stage r records ≡ true → Ended stage r records
    ended-parts e =
        record {
          refused = λ h. numbered-parts records (implied _ _ (and_l refusal none e) (eq-eqb _ _ h));
          unrefused = λ h. unrefused-parts (or_right _ _ (and_r refusal none e) (ne_eqb _ _ h));
        }

    pub ended-test : Ended stage r records → ended_test stage r records ≡ true
    ended-test p =
        both_true refusal none
        (implies (eqb stage 3) (numbered_test r records) (λ h. numbered-test records (p.refused (eqb-true _ _ h))))
        (or_left (eqb stage 3) (unrefused_test r) (λ h. unrefused-test (p.unrefused (eqb-false _ _ h))))

-- its numbers, with or without it
pub record RefusalMost (r : Refusal) : Type 0 where
  pub code : r.code ≤ 12
  pub accepted : r.accepted ≤ 4096
  pub field : r.field ≤ 12

pub refusal-in : {stage : ℕ} {r : Refusal} {records : ℕ} → Ended stage r records → records ≤ 4096 → RefusalMost r
refusal-in {stage} p most =
    by-test (eqb stage 3)
    (λ e. let n = p.refused (eqb-true _ _ e) in record { code = n.code-most; accepted = omega (arith, n.accepted); field = n.field-most })
    (λ e. let n = p.unrefused (eqb-false _ _ e) in record { code = omega arith; accepted = omega arith; field = omega arith })

-- ---- it stays

pub ended-none : Ended 0 (record { code = 0; accepted = 0; field = 0 }) 0
ended-none = record { refused = λ e. absurd (omega arith); unrefused = λ e. record { code = refl; accepted = refl; field = refl } }

pub ended-refused : (code field records : ℕ) → 1 ≤ code → code ≤ 12 → field ≤ 12 → (code ≡ 7 → 1 ≤ field) → ((code ≡ 7 → ⊥) → field ≡ 0)
    → Ended 3 (record { code = code; accepted = records; field = field }) records
ended-refused code field records low high most some none =
    record {
      refused = λ e. record { code-least = low; code-most = high; accepted = refl; field-most = most; field-some = some; field-none = none };
      unrefused = λ n. absurd (n refl);
    }

-- in an open book there is none, and none at a later stage but 3
pub ended-on : {stage : ℕ} {r : Refusal} {records : ℕ} → Ended stage r records → stage < 2 → (next more : ℕ) → next < 3 → Ended next r more
ended-on p early next more h =
    record { refused = λ e. absurd (omega arith); unrefused = λ n. p.unrefused (λ e. omega (arith, e)) }
