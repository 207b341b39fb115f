-- Document 01, rule 3, of the whole line: which line a detail record gives, from the last heading record before it and its own values. Said over the
-- records that the bytes make.
-- Assumes nothing.
use Rattle.std.specs.Prelude.{ℕ, ◌≡◌, List, [], ◌∷◌, ◌++◌, map, Bool, true, false, ◌&&◌, not, get_or}
use Rattle.account.specs.declared.Heading.{Heading}
use Rattle.account.specs.Sorts.{sort_of, by_sort}
use Rattle.account.specs.Judge.{record_row, values_of}
use Rattle.promises.specs.Headings.{Mark, mark_of}
use Rattle.promises.specs.Subtotals.{heading_after}

-- r is a detail, of a group or of the farm
abbrev pub is_detail : List ℕ → Bool
is_detail r = by_sort (sort_of (record_row r)) false false true true false

-- the heading that the last heading record of rs brings; h where there is none
unfoldable pub last_heading : Heading → List (List ℕ) → Heading
last_heading h [] = h
last_heading h (r ∷ rs) = last_heading (heading_after h r) rs

-- r is a heading record
abbrev pub is_heading : List ℕ → Bool
is_heading r = by_sort (sort_of (record_row r)) false true false false false

-- the heading that it brings: group, class and head
abbrev pub heading_from : List ℕ → Heading
heading_from r = record { group = get_or (values_of r) 0 0; class = get_or (values_of r) 1 0; head = get_or (values_of r) 2 0 }

-- none of rs is a heading record
unfoldable pub no_heading : List (List ℕ) → Bool
no_heading [] = true
no_heading (r ∷ rs) = not (is_heading r) && no_heading rs

-- among the lines ls stands l, right behind lines that bear these marks
pub record Among (marks : List Mark) (l : List ℕ) (ls : List (List ℕ)) : Type 0 where
  pub before : List (List ℕ)
  pub behind : List (List ℕ)
  pub bear : map mark_of before ≡ marks
  pub are : ls ≡ before ++ (l ∷ behind)
