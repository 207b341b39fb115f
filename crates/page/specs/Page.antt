-- The member's page of a book: of a closed one its figures, of any other why there are none.
-- Assumes nothing.
use Rattle.std.specs.Prelude.{ℕ, ◌+◌, Bool, true, false, not, ◌&&◌, ◌||◌, List, [], ◌++◌, length, drop, ◌==◌, nat_le}
use Rattle.base.specs.Choice.{pick}
use Rattle.account.specs.declared.Account.{Account}
use Rattle.account.specs.Account.{no_record}
use Rattle.account.specs.Range.{account_in_range}
use Rattle.account.specs.Judge.{kind_byte}
use Rattle.walk.specs.Walk.{next_of}
use Rattle.why.specs.declared.Verdict.{Verdict}
use Rattle.why.specs.declared.Verdict.TheVariants.{Accepted, Missing, NextLength, Refused}
use Rattle.why.specs.Why.{why_of}
use Rattle.why.specs.Remarks.{people_text}
use Rattle.page.specs.declared.Place.{Place}
use Rattle.page.specs.declared.Scale.{Scale}
use Rattle.page.specs.declared.Survey.{Survey}
use Rattle.page.specs.Over.{over_bytes}
use Rattle.page.specs.Bars.{no_step}
use Rattle.page.specs.Figures.{group_step, group_of, survey_of, group_scale}
use Rattle.page.specs.Parts.{top_text, group_text, rest_text, before_text, after_text}

-- ---- the rows of the groups

-- how far they have come: the step and grazing's sum at the last heading, and the text so far
pub record Rows : Type 0 where
  pub from : ℕ
  pub grazed : ℕ
  pub text : List ℕ

-- a heading or the close ends the group before it
abbrev pub ends_group : Account → ℕ → Bool
ends_group a kind = (kind == 2 || kind == 8) && not (a.heading.group == 0)

-- the row of a group that a record of the kind ends
abbrev pub row_by : Scale → ℕ → ℕ → Account → ℕ → List ℕ
row_by sc from grazed a kind = pick (ends_group a kind) (group_text sc (group_of a from grazed)) []

-- with the record r after the account a
abbrev pub next_rows : Scale → Rows → Account → List ℕ → Rows
next_rows sc x a r =
    record {
      from = pick (kind_byte r == 2) (group_step a) x.from;
      grazed = pick (kind_byte r == 2) a.sums.grazing.0 x.grazed;
      text = x.text ++ row_by sc x.from x.grazed a (kind_byte r);
    }

-- the rows that the bytes xs give after the account a
abbrev pub rows_from : Scale → ℕ → ℕ → Account → List ℕ → List ℕ
rows_from sc from grazed a xs = (over_bytes (next_rows sc) (record { from = from; grazed = grazed; text = [] }) a xs).text

-- those of a book
abbrev pub rows_of : Scale → List ℕ → List ℕ
rows_of sc xs = rows_from sc no_step 0 no_record xs

-- ---- the page

abbrev pub is_refused : Verdict → Bool
is_refused (Accepted end more) = false
is_refused (Missing n) = false
is_refused NextLength = false
is_refused (Refused w) = true

-- up to the rows of the groups, or to why's sentence
abbrev pub first_text : Survey → Verdict → List ℕ
first_text s v = pick s.closed (top_text s) (before_text s (is_refused v))

-- the rows of the groups, or why's sentence
abbrev pub middle_text : Survey → Verdict → List ℕ → List ℕ
middle_text s v xs = pick s.closed (rows_of (group_scale s) xs) (people_text v)

-- what stands after them
abbrev pub last_text : Survey → Verdict → List ℕ
last_text s v = pick s.closed (rest_text s) (after_text s (is_refused v))

unfoldable pub page_of : List ℕ → List ℕ
page_of xs =
    let s = survey_of xs in
    let v = why_of xs in
    first_text s v ++ (middle_text s v xs ++ last_text s v)

-- ---- the rows one by one, as the program prints them

-- before the first record
abbrev pub no_place : Place
no_place = record { account = no_record; at = 0; from = no_step; grazed = 0; more = true }

-- a record is accepted at the place
abbrev pub goes_on_lem : Place → List ℕ → Bool
goes_on_lem p xs =
    let t = next_of p.account (drop p.at xs) in
    (account_in_range p.account && nat_le p.at (length xs)) && (not (t.size == 0) && not (t.account.stage == 3))

-- the kind of the record at the place
abbrev pub kind_at : Place → List ℕ → ℕ
kind_at p xs = kind_byte (drop p.at xs)

-- the place after a record of the kind, which has so many bytes and leaves the account after it
abbrev pub moved_by : Place → ℕ → Account → ℕ → Place
moved_by p kind after size =
    record {
      account = after;
      at = p.at + size;
      from = pick (kind == 2) (group_step p.account) p.from;
      grazed = pick (kind == 2) p.account.sums.grazing.0 p.grazed;
      more = true;
    }

-- the same place, after which nothing comes
abbrev pub stopped_at : Place → Place
stopped_at p = record { account = p.account; at = p.at; from = p.from; grazed = p.grazed; more = false }

-- the place after the record that is accepted there; where none is, nothing more comes
abbrev pub place_after : Place → List ℕ → Place
place_after p xs =
    let t = next_of p.account (drop p.at xs) in
    pick (goes_on_lem p xs) (moved_by p (kind_at p xs) t.account t.size) (stopped_at p)

-- the row that it ends
abbrev pub row_at : Scale → Place → List ℕ → List ℕ
row_at sc p xs = pick (goes_on_lem p xs) (row_by sc p.from p.grazed p.account (kind_at p xs)) []
