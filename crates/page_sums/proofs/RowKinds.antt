-- The kind of a record and the sort of its row: a heading is kind 2, the close kind 8. And the heading that a row bears.
-- Assumes nothing.
use Prim.Native.Nat.{ℕ, ◌≤◌}
use mathlib.Core.Path.{◌≡◌, refl, sym}
use mathlib.Core.List.{List}
use mathlib.Core.Bool.{Bool, true, false, ◌&&◌, not}
use mathlib.Core.Logic.{⊎_elim}
use native.Mathlib.Omega.{arith}
use borrow.Author.Tests.{eqb-true, eq-eqb, leb-true}
use lib.Dec.{eqb, leb}
use Rattle.base.specs.Choice.{pick}
use Rattle.base.proofs.Tests.{by-test, no_bool, and_l, and-false, not-false}
use Rattle.codec.specs.Table.{last_row}
use Rattle.account.specs.declared.Account.{Account}
use Rattle.account.specs.declared.sort.Sort.TheVariants.{Heads, OfGroup, Closes}
use Rattle.account.specs.Sorts.{is_farm, sort_of, by_sort}
use Rattle.account.specs.Range.{AccountInRange, Headed, Unheaded}
use Rattle.account.specs.Judge.{Step, version_of, kind_byte, record_row, values_of, heading_serves, in_place_lem, NotRefused, accepted, judge}
use Rattle.account.proofs.Sorts.{by-sort, sort-farm, heads-two, closes-eight}
use Rattle.account.proofs.Details.{judge-accepted}
use Rattle.page_sums.specs.Headings.{heading_of}

module _ (r : List ℕ) where
  -- the row of a kind that is not the farm's is the kind
  row_of : (n : ℕ) → eqb n 1 ≡ false → kind_byte r ≡ n → record_row r ≡ n
  row_of n e k = rw (k, e, and-false (eqb (version_of r) 2)) refl

  kind-of : (n : ℕ) → (last_row ≡ n → ⊥) → record_row r ≡ n → eqb (kind_byte r) n ≡ true
  kind-of n other e =
      by-test (eqb (version_of r) 2 && eqb (kind_byte r) 1)
      (λ t. absurd (other (rw t at e)))
      (λ t. eq-eqb _ _ (rw t at e))

  pub kind-heads : sort_of (record_row r) ≡ Heads → eqb (kind_byte r) 2 ≡ true
  kind-heads e = kind-of 2 (λ q. omega (arith, q)) (heads-two (record_row r) e)

  pub kind-closes : sort_of (record_row r) ≡ Closes → eqb (kind_byte r) 8 ≡ true
  kind-closes e = kind-of 8 (λ q. omega (arith, q)) (closes-eight (record_row r) e)

  pub not-heading : by_sort (sort_of (record_row r)) false true false false false ≡ false → eqb (kind_byte r) 2 ≡ false
  unfolding sort_of
  not-heading e = by-test (eqb (kind_byte r) 2) (λ t. no_bool (sym (rw (row_of 2 refl (eqb-true _ _ t)) at e))) (λ t. t)

  pub not-close : by_sort (sort_of (record_row r)) false false false false true ≡ false → eqb (kind_byte r) 8 ≡ false
  unfolding sort_of
  not-close e = by-test (eqb (kind_byte r) 8) (λ t. no_bool (sym (rw (row_of 8 refl (eqb-true _ _ t)) at e))) (λ t. t)

-- ---- a detail of the group stands under a heading

class-least : (k class : ℕ) → sort_of k ≡ OfGroup → heading_serves class k ≡ true → 1 ≤ class
class-least k class e s = go (eqb k 5) (rw e at s)
  where
    go : (b : Bool) → pick b (eqb class 4) (leb 1 class && leb class 3) ≡ true → 1 ≤ class
    go true t = let four = eqb-true class 4 t in omega arith
    go false t = leb-true _ _ (and_l _ _ t)

row-headed : (a : Account) (k : ℕ) → AccountInRange a → in_place_lem a k ≡ true → sort_of k ≡ OfGroup → 1 ≤ a.heading.group
unfolding in_place_lem
row-headed a k range e q =
    let none : is_farm k ≡ false = rw q at (sort-farm k) in
    let placed : heading_serves a.heading.class k && not (eqb a.records 0) ≡ true = rw none at e in
    let class = class-least k a.heading.class q (and_l (heading_serves a.heading.class k) _ placed) in
    ⊎_elim
    (λ (h : Headed a.heading a.used a.records). h.group-least)
    (λ (h : Unheaded a.heading a.used). absurd (omega (arith, class, h.class)))
    range.under.heading

pub detail-headed : (a : Account) (r : List ℕ) → AccountInRange a → NotRefused a r → sort_of (record_row r) ≡ OfGroup → 1 ≤ a.heading.group
detail-headed a r range t q = row-headed a (record_row r) range (not-false (in_place_lem a (record_row r)) t.values.place) q

-- ---- the heading that a row bears

-- An accepted heading sets group, class and head to its values; every other record leaves them as they are. So a row, which has those of the account,
-- bears the last heading before the record that ends it.
pub page-bears-heading : (a : Account) (r : List ℕ) → NotRefused a r
    → (judge a r).account.heading ≡ pick (eqb (kind_byte r) 2) (heading_of (values_of r)) a.heading
unfolding accepted
page-bears-heading a r t =
    rw (judge-accepted a r t)
    (by-sort (λ (s : Step). s.account.heading ≡ pick (eqb (kind_byte r) 2) (heading_of (values_of r)) a.heading) (sort_of (record_row r))
    (λ q. rw (not-heading r (rw q refl)) refl) (λ q. rw (kind-heads r q) refl) (λ q. rw (not-heading r (rw q refl)) refl)
    (λ q. rw (not-heading r (rw q refl)) refl) (λ q. rw (not-heading r (rw q refl)) refl))
