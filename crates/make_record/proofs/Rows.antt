-- The row of some values of a kind, and the version and the kind of a row.
-- Assumes nothing.
use Prim.Native.Nat.{ℕ, ◌≤◌}
use mathlib.Core.Path.{◌≡◌, refl, sym, ◌∙◌}
use mathlib.Core.List.{List}
use mathlib.Core.Bool.{true, false, ◌&&◌, ◌||◌, not}
use mathlib.Core.Logic.{⊎_elim}
use native.Mathlib.Omega.{arith}
use borrow.Author.Tests.{eqb-true, eqb-false, ne_eqb, le-leb, not-false}
use lib.Dec.{eqb}
use lib.ListN.{length}
use Rattle.base.specs.Choice.{pick}
use Rattle.base.proofs.Tests.{by-test, and-false, and_l, and_r, or_cases, of-choice, no_bool}
use Rattle.codec.specs.Table.{table, fields, row_of, row_version, row_kind, last_kind, last_row, is_kind, Of}
use Rattle.codec.proofs.EachKind.{kind-most}
use Rattle.make_record.specs.Write.{row_for, OfKind}

-- ---- the version and the kind of a row

-- they lead back to it
pub row_back : (row : ℕ) → row_of (row_version row) (row_kind row) ≡ row
row_back row = by-test (eqb row last_row) (λ e. rw e (sym (eqb-true row last_row e))) (λ e. rw e refl)

-- 2 lets them through
pub version-passes : (row : ℕ) → not (eqb (row_version row) 1 || (eqb (row_version row) 2 && eqb (row_kind row) 1)) ≡ false
version-passes row = by-test (eqb row last_row) (λ e. rw e refl) (λ e. rw e refl)

-- and so does 3
pub kind-passes : (row : ℕ) → 1 ≤ row → row ≤ last_row → not (is_kind (row_kind row)) ≡ false
kind-passes row l m =
    by-test (eqb row last_row) (λ e. rw e refl)
    (λ e. let n = eqb-false row last_row e in rw (e, le-leb 1 row l, le-leb row last_kind (omega arith)) refl)

-- ---- the row of some values

pub kind-of-row : (k count : ℕ) → k ≤ last_kind → row_kind (row_for k count) ≡ k
kind-of-row k count m =
    by-test (eqb k 1 && eqb count 4)
    (λ e. rw e (sym (eqb-true k 1 (and_l (eqb k 1) (eqb count 4) e))))
    (λ e. let n : k ≡ last_row → ⊥ = λ q. omega arith in rw (e, ne_eqb k last_row n) refl)

pub version-of-row : (k count : ℕ) → k ≤ last_kind → row_version (row_for k count) ≡ pick (eqb k 1 && eqb count 4) 2 1
version-of-row k count m =
    by-test (eqb k 1 && eqb count 4)
    (λ e. rw e refl)
    (λ e. let n : k ≡ last_row → ⊥ = λ q. omega arith in rw (e, ne_eqb k last_row n) refl)

-- values of a kind are values of their row
pub of_row : (k : ℕ) (v : List ℕ) {row : ℕ} → row ≡ row_for k (length v) → OfKind k row v → Of row v
of_row k v {row} e o = record { least = range.0; most = range.1; count = o.count }
  where
    range : (1 ≤ row) × (row ≤ last_row)
    range =
        rw e
        (of-choice (λ (n : ℕ). (1 ≤ n) × (n ≤ last_row)) (eqb k 1 && eqb (length v) 4)
        (λ _. (omega arith, omega arith)) (λ _. (o.least, omega (arith, o.most))))

-- as many values as a record has are of the record's row
pub row-again : (version k count : ℕ) → count ≡ length (fields (row_of version k)) → row_for k count ≡ row_of version k
unfolding table
row-again version k count e =
    by-test (eqb k 1) (λ one. farm version k count (eqb-true k 1 one) e) (λ other. rw (other, and-false (eqb version 2)))
  where
    farm : (version k count : ℕ) → k ≡ 1 → count ≡ length (fields (row_of version k)) → row_for k count ≡ row_of version k
    farm version k count one e =
        rw one
        (by-test (eqb version 2)
        (λ second. let four : count ≡ 4 = rw (one, second) at e in rw (second, four) refl)
        (λ first. let three : count ≡ 3 = rw (one, first) at e in rw (first, three) refl))

-- ---- version and kind of a record that 2 and 3 let through are those of its row

kind-is-no-row : (k : ℕ) → is_kind k ≡ true → k ≡ last_row → ⊥
kind-is-no-row k e q = let m = kind-most k e in omega arith

pub kind-again : (version k : ℕ) → is_kind k ≡ true → k ≡ row_kind (row_of version k)
kind-again version k e =
    by-test (eqb version 2 && eqb k 1)
    (λ t. rw t (eqb-true k 1 (and_r (eqb version 2) (eqb k 1) t)))
    (λ t. rw (t, ne_eqb k last_row (kind-is-no-row k e)) refl)

pub version-again : (version k : ℕ) → not (eqb version 1 || (eqb version 2 && eqb k 1)) ≡ false → is_kind k ≡ true
    → version ≡ row_version (row_of version k)
version-again version k p e =
    by-test (eqb version 2 && eqb k 1)
    (λ t. rw t (eqb-true version 2 (and_l (eqb version 2) (eqb k 1) t)))
    (λ t. rw (t, ne_eqb k last_row (kind-is-no-row k e)) (one t))
  where
    one : eqb version 2 && eqb k 1 ≡ false → version ≡ 1
    one t =
        ⊎_elim (λ (q : eqb version 1 ≡ true). eqb-true version 1 q) (λ (q : eqb version 2 && eqb k 1 ≡ true). no_bool (sym t ∙ q))
        (or_cases (eqb version 1) (eqb version 2 && eqb k 1) (not-false _ p))
