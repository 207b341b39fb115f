-- Document 02, W9: "in two books both accepted up to and with a given detail record .., if that record and its heading are the same in both, its line
-- is the same, all other records being free, the warming set too." Said over the bytes of two books, each from no record.
-- Assumes nothing.
use Rattle.std.specs.Prelude.{ℕ, ◌≡◌, List, [], ◌∷◌, ◌++◌, take}
use Rattle.base.specs.Choice.{pick}
use Rattle.account.specs.Line.{joined, line_of}
use Rattle.account.specs.Judge.{record_row, values_of}
use Rattle.book.specs.WholeRecords.{records_of}
use Rattle.book.specs.State.{no_record_yet}
use Rattle.book.specs.Run.{run}
use Rattle.promises.specs.Headings.{accepted_records}
use Rattle.promises.specs.EveryKind.{every_kind}
use Rattle.promises.specs.WholeLines.{is_heading, heading_from}

-- the last heading record of rs, as its bytes; h where there is none
unfoldable pub last_heading_from : List ℕ → List (List ℕ) → List ℕ
last_heading_from h [] = h
last_heading_from h (r ∷ rs) = last_heading_from (pick (is_heading r) r h) rs

-- no bytes where there is none
abbrev pub heading_before : List (List ℕ) → List ℕ
heading_before rs = last_heading_from [] rs

-- in the book xs the records `before` are accepted, and r behind them
pub record Accepts (xs : List ℕ) (before : List (List ℕ)) (r : List ℕ) : Type 0 where
  pub after : List (List ℕ)
  pub records : accepted_records no_record_yet xs ≡ before ++ (r ∷ after)

-- in the book xs the line l is given by the record behind the records `before`: it stands behind the lines that those give
pub record Gives (xs : List ℕ) (before : List (List ℕ)) (l : List ℕ) : Type 0 where
  pub others : List (List ℕ)
  pub lines : (run no_record_yet xs).lines ≡ (run no_record_yet (joined before)).lines ++ (l ∷ others)

-- the line of a detail record r under the heading record h
abbrev pub line_under : List ℕ → List ℕ → List ℕ
line_under h r = line_of (heading_from h) (record_row r) (values_of r)

-- ---- two books that share one pig record and its heading, and nothing else

-- group 515, pig, 307 head
abbrev pub shared_heading : List ℕ
shared_heading = 0 ∷ 7 ∷ 1 ∷ 2 ∷ 2 ∷ 3 ∷ 4 ∷ 1 ∷ 51 ∷ []

-- pig: 103, 219, 1013, 1103, 211, 1811, 907, 223, 251, 1009, 127, 769
abbrev pub shared_pig : List ℕ
shared_pig =
    0 ∷ 26 ∷ 1 ∷ 5 ∷ 0 ∷ 103 ∷ 0 ∷ 219 ∷ 3 ∷ 245 ∷ 4 ∷ 79 ∷ 0 ∷ 211 ∷ 7 ∷ 19 ∷ 3 ∷ 139 ∷ 0 ∷ 223 ∷ 0 ∷ 251 ∷ 3 ∷ 241 ∷ 0 ∷ 127 ∷ 3 ∷ 1 ∷ []

-- one book is that with every kind, in set 2, where the pig record is the first under its heading; here are the records before it
abbrev pub every_kind_before : List (List ℕ)
every_kind_before = take 7 (records_of every_kind)

-- the other is of another farm and year, in set 1, with other records, another ration under the heading, and without a close
abbrev pub other_before : List (List ℕ)
other_before =
    -- farm 7, year 2010, warming set 1
    (0 ∷ 9 ∷ 1 ∷ 1 ∷ 0 ∷ 0 ∷ 0 ∷ 7 ∷ 7 ∷ 218 ∷ 1 ∷ [])
    -- organic soil: 100
    ∷ (0 ∷ 6 ∷ 1 ∷ 7 ∷ 0 ∷ 0 ∷ 0 ∷ 100 ∷ [])
    -- group 12, dry, 40 head
    ∷ (0 ∷ 7 ∷ 1 ∷ 2 ∷ 0 ∷ 12 ∷ 2 ∷ 0 ∷ 40 ∷ [])
    -- enteric: 31, 30000, 650
    ∷ (0 ∷ 10 ∷ 1 ∷ 3 ∷ 0 ∷ 31 ∷ 0 ∷ 0 ∷ 117 ∷ 48 ∷ 2 ∷ 138 ∷ [])
    ∷ shared_heading
    -- pig: 100, 200, 1000, 1000, 200, 1800, 1000, 200, 250, 1000, 0, 0
    ∷ (0 ∷ 26 ∷ 1 ∷ 5 ∷ 0 ∷ 100 ∷ 0 ∷ 200 ∷ 3 ∷ 232 ∷ 3 ∷ 232 ∷ 0 ∷ 200 ∷ 7 ∷ 8 ∷ 3 ∷ 232 ∷ 0 ∷ 200 ∷ 0 ∷ 250 ∷ 3 ∷ 232 ∷ 0 ∷ 0 ∷ 0 ∷ 0 ∷ [])
    -- energy: 1, 125, 70000
    ∷ (0 ∷ 11 ∷ 1 ∷ 6 ∷ 1 ∷ 0 ∷ 0 ∷ 0 ∷ 125 ∷ 0 ∷ 1 ∷ 17 ∷ 112 ∷ [])
    ∷ []

abbrev pub other_book : List ℕ
other_book = joined other_before ++ shared_pig

-- the line, as the second program writes it: 5, group 515: 525053, 11489, 0, 1273983, 792417, 0
abbrev pub shared_line : List ℕ
shared_line =
    (0 ∷ 52 ∷ 1 ∷ 5 ∷ 2 ∷ 3 ∷ []) ++ (0 ∷ 0 ∷ 0 ∷ 0 ∷ 0 ∷ 8 ∷ 2 ∷ 253 ∷ []) ++ (0 ∷ 0 ∷ 0 ∷ 0 ∷ 0 ∷ 0 ∷ 44 ∷ 225 ∷ [])
    ++ (0 ∷ 0 ∷ 0 ∷ 0 ∷ 0 ∷ 0 ∷ 0 ∷ 0 ∷ []) ++ (0 ∷ 0 ∷ 0 ∷ 0 ∷ 0 ∷ 19 ∷ 112 ∷ 127 ∷ []) ++ (0 ∷ 0 ∷ 0 ∷ 0 ∷ 0 ∷ 12 ∷ 23 ∷ 97 ∷ [])
    ++ (0 ∷ 0 ∷ 0 ∷ 0 ∷ 0 ∷ 0 ∷ 0 ∷ 0 ∷ [])
