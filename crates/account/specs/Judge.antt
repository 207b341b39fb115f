-- Document 01, "The book" and "Refusal numbers": what one whole record does, after the records before it.
-- Assumes nothing.
use Rattle.std.specs.Prelude.{ℕ, ◌+◌, ◌≤◌, ◌<◌, ◌≡◌, List, [], ◌∷◌, ◌++◌, Bool, true, false, ◌&&◌, ◌||◌, not, length, get_or, ltb, leb, eqb}
use Rattle.base.specs.Choice.{pick}
use Rattle.codec.specs.Table.{fields, row_of, length_of, length_most_lem, is_kind}
use Rattle.codec.specs.Codec.{val_at, values_at, first_bad}
use Rattle.grams.specs.Cattle.{below_zero}
use Rattle.account.specs.declared.Account.{Account}
use Rattle.account.specs.declared.Subtotal.{Subtotal}
use Rattle.account.specs.declared.Used.{Used}
use Rattle.account.specs.Sorts.{is_farm, sort_of, by_sort, is_of_group}
use Rattle.account.specs.Figures.{grouped, cattle_ration, figures_of}
use Rattle.account.specs.Account.{refused, opened, under_heading, with_detail, closed, farm_of, used_after}
use Rattle.account.specs.Line.{line_of, subtotals, total_of}

-- ---- a record and its parts

-- r is a whole record: a length of 4..length_most_lem, and so many bytes behind it
pub record WholeRecord (r : List ℕ) : Type 0 where
  pub long : length r ≡ val_at r 0 2 + 2
  pub low : 4 ≤ val_at r 0 2
  pub high : val_at r 0 2 ≤ length_most_lem

abbrev pub version_of : List ℕ → ℕ
version_of r = get_or r 2 0

abbrev pub kind_byte : List ℕ → ℕ
kind_byte r = get_or r 3 0

-- the record's row of the table: its kind, but for a farm record of version 2, which has a row of its own. All that follows goes by the row
abbrev pub record_row : List ℕ → ℕ
record_row r = row_of (version_of r) (kind_byte r)

abbrev pub values_of : List ℕ → List ℕ
values_of r = values_at (fields (record_row r)) r 4

-- ---- the refusals

-- of the group's details a pig record (5) needs a pig heading (class 4), the others (3, 4 and 10) a cattle heading (classes 1 to 3)
abbrev pub heading_serves : ℕ → ℕ → Bool
heading_serves class row = pick (is_of_group row) (pick (eqb row 5) (eqb class 4) (leb 1 class && leb class 3)) true

-- the first record is kind 1 and no other is
unfoldable pub in_place_lem : Account → ℕ → Bool
in_place_lem a row = pick (is_farm row) (eqb a.records 0) (heading_serves a.heading.class row && not (eqb a.records 0))

-- the tests, by name, each true where it refuses

-- 2: neither version 1, nor version 2 of kind 1
abbrev pub wrong_version : List ℕ → Bool
wrong_version r = not (eqb (version_of r) 1 || (eqb (version_of r) 2 && eqb (kind_byte r) 1))

-- 3: none of the kinds
abbrev pub wrong_kind : List ℕ → Bool
wrong_kind r = not (is_kind (kind_byte r))

-- 4: length not that of the kind and version
abbrev pub wrong_length : List ℕ → Bool
wrong_length r = not (eqb (val_at r 0 2) (length_of (record_row r)))

-- 5: 4,096 records already accepted
abbrev pub book_full : Account → Bool
book_full a = leb 4096 a.records

-- 6: out of its place
abbrev pub out_of_place : Account → ℕ → Bool
out_of_place a row = not (in_place_lem a row)

-- 7: a field out of range
abbrev pub out_of_range_lem : ℕ → List ℕ → Bool
out_of_range_lem row v = not (eqb (first_bad (fields row) v 0) 0)

-- 8: group not above the last
abbrev pub not_rising : Account → ℕ → List ℕ → Bool
not_rising a row v = eqb row 2 && leb (get_or v 0 0) a.heading.group

-- 9: days over 366 with this record, each of kinds 3, 4 and 5 for itself
abbrev pub days_over : Used → ℕ → List ℕ → Bool
days_over u row v =
    pick (eqb row 3) (ltb 366 (u.enteric + get_or v 0 0))
    (pick (eqb row 4) (ltb 366 (u.nitrogen + get_or v 0 0))
    (pick (eqb row 5) (ltb 366 (u.pig + get_or v 0 0)) false))

-- 10: cattle shares not 10000 together, or pig parts over 1000 together
abbrev pub parts_wrong : ℕ → List ℕ → Bool
parts_wrong row v =
    pick (eqb row 4) (not (eqb (get_or v 6 0 + get_or v 7 0 + get_or v 8 0) 10000))
    (pick (eqb row 5) (ltb 1000 (get_or v 8 0 + get_or v 10 0)) false)

-- 10 too: grazed fractions over 10000 under the heading with this record
abbrev pub grazed_over : Used → ℕ → List ℕ → Bool
grazed_over u row v = eqb row 10 && ltb 10000 (u.grazed + get_or v 3 0)

-- 11: X below zero
abbrev pub feed_below : ℕ → List ℕ → Bool
feed_below row v = eqb row 4 && below_zero (cattle_ration v)

-- 12: close count wrong
abbrev pub wrong_count : Account → ℕ → List ℕ → Bool
wrong_count a row v = eqb row 8 && not (eqb (get_or v 0 0) a.records)

-- the refusals of values v of a row, in the order they are tried
abbrev pub value_refusals : Account → ℕ → List ℕ → List (Bool × ℕ)
value_refusals a row v =
    (book_full a, 5)
    ∷ (out_of_place a row, 6)
    ∷ (out_of_range_lem row v, 7)
    ∷ (not_rising a row v, 8)
    ∷ (days_over a.used row v, 9)
    ∷ (parts_wrong row v, 10)
    ∷ (grazed_over a.used row v, 10)
    ∷ (feed_below row v, 11)
    ∷ (wrong_count a row v, 12)
    ∷ []

-- the refusals of a whole record, in the order they are tried
abbrev pub refusals : Account → List ℕ → List (Bool × ℕ)
refusals a r = (wrong_version r, 2) ∷ (wrong_kind r, 3) ∷ (wrong_length r, 4) ∷ value_refusals a (record_row r) (values_of r)

-- the number of the first test that holds, 0 where none does
unfoldable pub first : List (Bool × ℕ) → ℕ
first [] = 0
first (t ∷ ts) = pick t.0 t.1 (first ts)

-- ---- the refusals, test by test and by name

-- what P says of each test of values v of a row, by the test's number and by whether it refuses; the two tests of 10 count as one
pub record ValueTests (P : ℕ → Bool → Type 0) (a : Account) (row : ℕ) (v : List ℕ) : Type 0 where
  pub room : P 5 (book_full a)
  pub place : P 6 (out_of_place a row)
  pub in_range : P 7 (out_of_range_lem row v)
  pub rising : P 8 (not_rising a row v)
  pub days : P 9 (days_over a.used row v)
  pub together : P 10 (parts_wrong row v || grazed_over a.used row v)
  pub feed : P 11 (feed_below row v)
  pub count : P 12 (wrong_count a row v)

-- the same of each test of a whole record
pub record Tests (P : ℕ → Bool → Type 0) (a : Account) (r : List ℕ) : Type 0 where
  pub version : P 2 (wrong_version r)
  pub kind : P 3 (wrong_kind r)
  pub long : P 4 (wrong_length r)
  pub values : ValueTests P a (record_row r) (values_of r)

-- not refused: no test refuses
abbrev pub LetsThrough : ℕ → Bool → Type 0
LetsThrough number refuses = refuses ≡ false

abbrev pub ValuesPass : Account → ℕ → List ℕ → Type 0
ValuesPass a row v = ValueTests LetsThrough a row v

abbrev pub NotRefused : Account → List ℕ → Type 0
NotRefused a r = Tests LetsThrough a r

-- refused by the number c: no test before it refuses, and its own does
abbrev pub DecidedBy : ℕ → ℕ → Bool → Type 0
DecidedBy c number refuses = (number < c → refuses ≡ false) × (number ≡ c → refuses ≡ true)

abbrev pub RefusedBy : ℕ → Account → List ℕ → Type 0
RefusedBy c a r = Tests (DecidedBy c) a r

-- ---- what a record does

-- the account after a record, and the lines that it gives
pub record Step : Type 0 where
  pub account : Account
  pub lines : List (List ℕ)

-- a detail that leaves this subtotal
abbrev pub with_line : Account → ℕ → List ℕ → Subtotal → Step
with_line a row v subtotal =
    record {
      account = with_detail a (used_after a.used row v) subtotal (figures_of a.heading row v);
      lines = line_of a.heading row v ∷ [];
    }

-- a record that is not refused, by its sort; a detail of the group alone counts in the subtotal
unfoldable pub accepted : Account → ℕ → List ℕ → Step
accepted a row v =
    by_sort (sort_of row) (record { account = opened a (farm_of row v); lines = [] })
    (record { account = under_heading a (get_or v 0 0) (get_or v 1 0) (get_or v 2 0); lines = subtotals a })
    (with_line a row v (grouped a.subtotal (figures_of a.heading row v)))
    (with_line a row v a.subtotal)
    (record { account = closed a; lines = subtotals a ++ (total_of a ∷ []) })

-- by the number of its first refusal; the field is given for 7 alone
abbrev pub decided : ℕ → Account → ℕ → List ℕ → Step
decided code a row v =
    pick (eqb code 0) (accepted a row v)
    (record { account = refused a code (pick (eqb code 7) (first_bad (fields row) v 0) 0); lines = [] })

-- what values of a kind do
unfoldable pub weigh : Account → ℕ → List ℕ → Step
weigh a row v = decided (first (value_refusals a row v)) a row v

-- what a whole record does
unfoldable pub judge : Account → List ℕ → Step
judge a r = decided (first (refusals a r)) a (record_row r) (values_of r)
