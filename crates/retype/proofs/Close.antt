-- A close that is accepted: it counts the records before it, and the book is closed after it.
-- Assumes nothing.
use Prim.Native.Nat.{ℕ}
use native.Mathlib.Omega.{arith}
use mathlib.Core.Path.{◌≡◌, refl, ap, ◌∙◌}
use mathlib.Core.Bool.{false, not}
use mathlib.Core.List.{List, [], ◌∷◌}
use lib.ListN.{length, get_or}
use lib.Dec.{eqb}
use borrow.Author.Tests.{eqb-true, eq-eqb, not-false}
use Rattle.base.proofs.Tests.{and-false, and_no}
use Rattle.codec.specs.Table.{table, fields, row_of}
use Rattle.codec.proofs.Values.{values_length}
use Rattle.account.specs.declared.Account.{Account}
use Rattle.account.specs.Sorts.{sort_of}
use Rattle.account.specs.Judge.{Step, kind_byte, version_of, record_row, values_of, accepted, wrong_count, judge}
use Rattle.account.proofs.Refusals.{judged-passes}
use Rattle.account.proofs.Details.{judge-accepted}

-- the row of a close is its kind
row_is : (version k : ℕ) → k ≡ 8 → row_of version k ≡ 8
row_is version k e = rw (e, and-false (eqb version 2)) refl

one_field : (k : ℕ) → k ≡ 8 → length (fields k) ≡ 1
unfolding table
one_field k e = rw e refl

one_value : (v : List ℕ) (n : ℕ) → length v ≡ 1 → get_or v 0 0 ≡ n → v ≡ n ∷ []
one_value [] n l e = absurd (omega arith)
one_value (a ∷ []) n l e = ap (λ (x : ℕ). x ∷ []) e
one_value (a ∷ b ∷ v) n l e = absurd (omega arith)

counts : (a : Account) (k : ℕ) (v : List ℕ) → k ≡ 8 → wrong_count a k v ≡ false → get_or v 0 0 ≡ a.records
counts a k v e t = eqb-true _ _ (not-false _ (and_no (eqb k 8) (not (eqb (get_or v 0 0) a.records)) t (eq-eqb k 8 e)))

closes : (a : Account) (k : ℕ) (v : List ℕ) → k ≡ 8 → (accepted a k v).account.stage ≡ 2
unfolding accepted sort_of
closes a k v e = rw e refl

module _ (a : Account) (r : List ℕ) (h : (judge a r).account.stage ≡ 3 → ⊥) (e : kind_byte r ≡ 8) where
  row : record_row r ≡ 8
  row = row_is (version_of r) (kind_byte r) e

  pub close-counts : values_of r ≡ a.records ∷ []
  close-counts =
      one_value (values_of r) a.records (values_length (fields (record_row r)) r 4 ∙ one_field (record_row r) row)
      (counts a (record_row r) (values_of r) row (judged-passes a r h).values.count)

  pub close-ends : (judge a r).account.stage ≡ 2
  close-ends =
      ap (λ (s : Step). s.account.stage) (judge-accepted a r (judged-passes a r h)) ∙ closes a (record_row r) (values_of r) row
