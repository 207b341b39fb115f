-- What is promised of the member's page: the rows in parts are the rows of the book; a row's figures are those of its subtotal line; the page of a
-- book that is not closed has no figure.
-- Assumes nothing.
use Rattle.std.proofs.Common.{◌≡◌, ℕ, zero, suc, ◌+◌, ◌-◌, ◌≤◌, Bool, true, false, not, ◌&&◌, ◌||◌, eqb, List, [], ◌∷◌, ◌++◌, length, take, drop, sym}
use Rattle.std.proofs.Common.{refl, ap, ◌∙◌, append_assoc, append-nil, arith, drop_of_length-le, get_or-take, drop-drop, le-leb}
use Rattle.base.specs.Choice.{pick}
use Rattle.base.proofs.Tests.{by-test}
use Rattle.account.specs.declared.Account.{Account}
use Rattle.account.specs.Range.{AccountInRange}
use Rattle.account.specs.Judge.{kind_byte, judge}
use Rattle.account.proofs.Clauses.{in-range-test}
use Rattle.account.proofs.Keeps.{in-range-none, in-range-judge}
use Rattle.account.specs.Line.{subtotals}
use Rattle.book.specs.WholeRecords.{records_of}
use Rattle.walk.specs.declared.Next.{Next}
use Rattle.walk.specs.Walk.{accepts, next_of}
use Rattle.walk.proofs.Walks.{Stands}
use Rattle.why.specs.Why.{why_of}
use Rattle.why.specs.Remarks.{people_text}
use Rattle.page.specs.declared.Place.{Place}
use Rattle.page.specs.declared.Scale.{Scale}
use Rattle.page.specs.declared.Survey.{Survey}
use Rattle.page.specs.Over.{over}
use Rattle.page.specs.Figures.{group_step, group_of, survey_of, group_scale}
use Rattle.page.specs.Parts.{name_text, title_text, head_text, top_text, rest_text, before_text, after_text}
use Rattle.page.specs.Page.{Rows, row_by, next_rows, rows_from, rows_of, is_refused, page_of}
use Rattle.page.specs.Page.{no_place, goes_on_lem, kind_at, stopped_at, moved_by, place_after, row_at}
use Rattle.page.specs.Promised.{rows_by, subtotal_of, SameBook}
use Rattle.page.proofs.Overs.{over-nil, over-end, over-next}
use Rattle.page.proofs.Pages.{next-stands, next-inside}

-- ---- no figures

-- of a book that is not closed
pub page-not-closed : (xs : List ℕ) → (survey_of xs).closed ≡ false
    → page_of xs ≡ before_text (survey_of xs) (is_refused (why_of xs))
    ++ (people_text (why_of xs) ++ after_text (survey_of xs) (is_refused (why_of xs)))
unfolding page_of
page-not-closed xs e =
    let s = survey_of xs in
    let v = why_of xs in
    ap
    (λ (b : Bool). pick b (top_text s) (before_text s (is_refused v))
    ++ (pick b (rows_of (group_scale s) xs) (people_text v) ++ pick b (rest_text s) (after_text s (is_refused v)))) e

-- what stands there beside why's sentence has no figure of the book: other figures give the same text
pub page-no-figures : (s t : Survey) (refused : Bool) → SameBook s t
    → (before_text s refused ≡ before_text t refused) × (after_text s refused ≡ after_text t refused)
unfolding before_text after_text head_text name_text title_text
page-no-figures s t refused b = rw (b.closed, b.name, b.records) (refl, refl)

-- ---- the groups

-- the row that a record ends has the figures of the subtotal line that the record gives
pub page-bears-groups : (a : Account) (from grazed : ℕ) → eqb a.heading.group 0 ≡ false
    → subtotals a ≡ subtotal_of (group_of a from grazed) ∷ []
unfolding group_of
page-bears-groups a from grazed e = rw e refl

-- ---- in parts

-- the rows that the records rs give after the account a, with the rows u before them
abbrev rows_with : Scale → ℕ → ℕ → List ℕ → Account → List (List ℕ) → List ℕ
rows_with sc from grazed u a rs = (over (next_rows sc) (record { from = from; grazed = grazed; text = u }) a rs).text

-- with a record more
module _ (sc : Scale) (from grazed : ℕ) (a : Account) (r : List ℕ) (rs : List (List ℕ)) where
  abbrev from_next : ℕ
  from_next = pick (eqb (kind_byte r) 2) (group_step a) from

  abbrev grazed_next : ℕ
  grazed_next = pick (eqb (kind_byte r) 2) a.sums.grazing.0 grazed

  abbrev row : List ℕ
  row = row_by sc from grazed a (kind_byte r)

  rows_step : (u : List ℕ)
      → ((v : List ℕ) → rows_with sc from_next grazed_next v (judge a r).account rs
      ≡ v ++ rows_with sc from_next grazed_next [] (judge a r).account rs)
      → rows_with sc from grazed u a (r ∷ rs) ≡ u ++ rows_with sc from grazed [] a (r ∷ rs)
  unfolding over
  rows_step u ih =
      by-test (accepts a r)
      (λ t. rw (rows_with, t) (ih (u ++ row) ∙ append_assoc u row _ ∙ ap (λ (v : List ℕ). u ++ v) (sym (ih row))))
      (λ t. rw (rows_with, t) (sym (append-nil u)))

-- the rows so far stand before those that come
rows-after : (sc : Scale) (from grazed : ℕ) (u : List ℕ) (a : Account) (rs : List (List ℕ))
    → rows_with sc from grazed u a rs ≡ u ++ rows_with sc from grazed [] a rs
unfolding over
rows-after sc from grazed u a [] = sym (append-nil u)
rows-after sc from grazed u a (r ∷ rs) =
    rows_step sc from grazed a r rs u
    (λ v. rows-after sc (from_next sc from grazed a r rs) (grazed_next sc from grazed a r rs) v (judge a r).account rs)

-- a place in a book
module _ (sc : Scale) (xs : List ℕ) (p : Place) where
  abbrev rest : List ℕ
  rest = drop p.at xs

  abbrev found : Next
  found = next_of p.account rest

  -- what is still to be printed there
  abbrev rows_at : List ℕ
  rows_at = rows_from sc p.from p.grazed p.account rest

  module _ (range : AccountInRange p.account) (inside : p.at ≤ length xs) where
    goes-is : goes_on_lem p xs ≡ not (eqb found.size 0) && not (eqb found.account.stage 3)
    goes-is = rw (in-range-test p.account range, le-leb _ _ inside) refl

    -- no record is accepted there
    ends : goes_on_lem p xs ≡ false → rows_at ≡ []
    ends o = ap (λ (x : Rows). x.text) (over-end (next_rows sc) (record { from = p.from; grazed = p.grazed; text = [] })
        p.account rest found refl
        (neither (eqb found.size 0) (eqb found.account.stage 3) (sym goes-is ∙ o)))
      where
        neither : (b c : Bool) → not b && not c ≡ false → b || c ≡ true
        neither true c e = refl
        neither false true e = refl
        neither false false e = sym e

    module _ (o : goes_on_lem p xs ≡ true) where
      still : eqb found.size 0 || eqb found.account.stage 3 ≡ false
      still = both (eqb found.size 0) (eqb found.account.stage 3) (sym goes-is ∙ o)
        where
          both : (b c : Bool) → not b && not c ≡ true → b || c ≡ false
          both true c e = sym e
          both false true e = sym e
          both false false e = refl

      stand : Stands p.account rest found
      stand = next-stands p xs found refl still

      place_is : place_after p xs ≡ moved_by p (kind_at p xs) found.account found.size
      place_is = rw o refl

      -- its row, and then those of the place after it
      goes : rows_at ≡ row_at sc p xs
          ++ rows_from sc (place_after p xs).from (place_after p xs).grazed (place_after p xs).account (drop (place_after p xs).at xs)
      goes =
          let r = take found.size rest in
          let k : kind_byte r ≡ kind_at p xs = get_or-take found.size rest 3 0 (omega (arith, stand.least)) in
          let step = ap (λ (x : Rows). x.text)
          (over-next (next_rows sc) (record { from = p.from; grazed = p.grazed; text = [] }) p.account rest found refl still) in
          rw (o, ← drop-drop found.size p.at xs)
          (rw k at (step ∙ rows-after sc _ _ _ found.account (records_of (drop found.size rest))))

      range-next : AccountInRange (place_after p xs).account
      range-next = rw (place_is, stand.account) (in-range-judge p.account (take found.size rest) range stand.early)

      inside-next : (place_after p xs).at ≤ length xs
      inside-next = rw place_is (next-inside p xs found refl still inside)

      nearer : p.at + 6 ≤ (place_after p xs).at
      nearer = rw place_is (omega (arith, stand.least))

-- where nothing comes, nothing is printed
stopped_none : (n : ℕ) (sc : Scale) (xs : List ℕ) (p : Place) → goes_on_lem p xs ≡ false → rows_by n sc p xs ≡ []
unfolding rows_by
stopped_none zero sc xs p o = refl
stopped_none (suc n) sc xs p o = rw o (stopped_none n sc xs (stopped_at p) o)

-- as many calls as the book has bytes are enough
rows-in-parts : (n : ℕ) (sc : Scale) (xs : List ℕ) (p : Place) → AccountInRange p.account → p.at ≤ length xs → length xs - p.at ≤ n
    → rows_by n sc p xs ≡ rows_from sc p.from p.grazed p.account (drop p.at xs)
unfolding rows_by
rows-in-parts zero sc xs p range inside few =
    let none : drop p.at xs ≡ [] = drop_of_length-le xs {i = p.at} (omega (arith, few)) in
    rw none (sym (ap (λ (x : Rows). x.text) (over-nil (next_rows sc) (record { from = p.from; grazed = p.grazed; text = [] }) p.account)))
rows-in-parts (suc n) sc xs p range inside few =
    by-test (goes_on_lem p xs)
    (λ o.
    let more = rows-in-parts n sc xs (place_after p xs) (range-next sc xs p range inside o) (inside-next sc xs p range inside o)
    (omega (arith, nearer sc xs p range inside o, few, inside)) in
    ap (λ (v : List ℕ). row_at sc p xs ++ v) more ∙ sym (goes sc xs p range inside o))
    (λ o. stopped_none (suc n) sc xs p o ∙ sym (ends sc xs p range inside o))

-- The page of a closed book, printed row by row: so many calls of next_row as the book has bytes print the rows of its groups, whatever follows.
pub page-in-parts : (sc : Scale) (xs : List ℕ) → rows_by (length xs) sc no_place xs ≡ rows_of sc xs
page-in-parts sc xs = rows-in-parts (length xs) sc xs no_place in-range-none (omega arith) (omega arith)
