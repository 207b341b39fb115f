-- Document 02, W9, of a book: volatilised, leached and land nitrogen of an accepted pig record, each rounded for itself from the excreted grams, add
-- up to within 1 g of them.
-- Assumes nothing.
use Prim.Native.Nat.{ℕ, ◌+◌, ◌≤◌}
use mathlib.Core.Path.{◌≡◌, subst}
use mathlib.Core.List.{List, [], ◌∷◌, ◌++◌}
use mathlib.Core.Bool.{false}
use native.Mathlib.Omega.{arith}
use borrow.Author.Tests.{eqb-true, ltb-false}
use lib.ListN.{get_or}
use lib.Dec.{eqb}
use Rattle.base.proofs.Tests.{of-choice, or_l}
use Rattle.codec.specs.Table.{fields}
use Rattle.codec.specs.Codec.{first_bad}
use Rattle.grams.specs.Pig.{AddUp, manure_of}
use Rattle.grams.proofs.pig.AddUp.{pig-nitrogen-adds-up}
use Rattle.account.specs.declared.Account.{Account}
use Rattle.account.specs.declared.Heading.{Heading}
use Rattle.account.specs.Range.{AccountInRange}
use Rattle.account.specs.Figures.{pig_ration}
use Rattle.account.specs.Judge.{record_row, values_of, parts_wrong, grazed_over, first, refusals, Step, judge}
use Rattle.account.proofs.EachFigure.Pig.{pig-in}
use Rattle.account.proofs.Told.{head-most}
use Rattle.account.proofs.Refusals.{passed, not-refused}
use Rattle.account.proofs.Keeps.{in-range-judge}
use Rattle.book.specs.declared.State.{State}
use Rattle.book.specs.State.{held_of, InRange}
use Rattle.book.specs.Run.{run}
use Rattle.promises.specs.Headings.{accepted_records}
use Rattle.promises.specs.WholeLines.{last_heading}
use Rattle.promises.proofs.WholeLines.{shaped, book_records, next}

-- ---- one record

ranges-of : (row : ℕ) (v : List ℕ) → row ≡ 5 → first_bad (fields row) v 0 ≡ 0 → first_bad (fields 5) v 0 ≡ 0
ranges-of row v e h = rw e at h

parts-of : (row : ℕ) (v : List ℕ) → row ≡ 5 → parts_wrong row v ≡ false → get_or v 8 0 + get_or v 10 0 ≤ 1000
parts-of row v e h = ltb-false _ _ (rw e at h)

-- a record that is counted is not refused
pub unrefused : (a : Account) (r : List ℕ) → (judge a r).account.records ≡ a.records + 1 → first (refusals a r) ≡ 0
unfolding judge
unrefused a r =
    of-choice (λ (j : Step). j.account.records ≡ a.records + 1 → first (refusals a r) ≡ 0) (eqb (first (refusals a r)) 0) (λ e n. eqb-true _ _ e)
    (λ e n. absurd (omega (arith, n)))

here : (a : Account) (r : List ℕ) → AccountInRange a → (judge a r).account.records ≡ a.records + 1 → record_row r ≡ 5
    → AddUp (pig_ration (values_of r)) (manure_of (pig_ration (values_of r)) a.heading.head)
here a r v counted five =
    let t = (not-refused a r (unrefused a r counted)).values in
    let ranges = (passed a (record_row r) (values_of r) t).ranges in
    let parts = or_l (parts_wrong (record_row r) (values_of r)) (grazed_over a.used (record_row r) (values_of r)) t.together in
    pig-nitrogen-adds-up (pig_ration (values_of r)) a.heading.head
    (pig-in (values_of r) a.heading.head (head-most a v) (ranges-of (record_row r) (values_of r) five ranges)
    (parts-of (record_row r) (values_of r) five parts))

-- ---- any record of a book

along : (before behind : List (List ℕ)) (r : List ℕ) → record_row r ≡ 5 → (a : Account) (xs : List ℕ) → AccountInRange a
    → book_records a xs ≡ before ++ (r ∷ behind)
    → AddUp (pig_ration (values_of r)) (manure_of (pig_ration (values_of r)) (last_heading a.heading before).head)
unfolding last_heading
along [] behind r five a xs v q = here a r v (next a xs r behind v q).grown.counted five
along (b ∷ bs) behind r five a xs v q =
    let n = next a xs b (bs ++ (r ∷ behind)) v q in
    let s = shaped a b n.grown.counted in
    subst (λ (h : Heading). AddUp (pig_ration (values_of r)) (manure_of (pig_ration (values_of r)) (last_heading h bs).head)) s.heading
    (along bs behind r five (judge a b).account n.behind (in-range-judge a b v n.early) n.rest)

-- Where the records that a run accepts are some, then a pig record r, then others: what r gives under the last heading among the first ones (the
-- state's where there is none) adds up.
pub pig-record-adds-up : (s : State) (xs : List ℕ) → InRange s → (before behind : List (List ℕ)) (r : List ℕ)
    → accepted_records s xs ≡ before ++ (r ∷ behind) → record_row r ≡ 5
    → AddUp (pig_ration (values_of r)) (manure_of (pig_ration (values_of r)) (last_heading s.account.heading before).head)
unfolding run
pig-record-adds-up s xs v before behind r e five = along before behind r five s.account (held_of s ++ xs) v.account e
