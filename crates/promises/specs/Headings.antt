-- Document 01, rule 3: "Every ration and manure line bears the last group heading before it." Said over the records that the bytes make:
-- there is no state, no call and no line buffer in it.
-- Assumes nothing.
use Rattle.std.specs.Prelude.{ℕ, ◌-◌, ◌≡◌, List, [], ◌∷◌, ◌++◌, map, take, eqb}
use Rattle.base.specs.Choice.{pick}
use Rattle.codec.specs.Codec.{val_at}
use Rattle.account.specs.Sorts.{sort_of, by_sort}
use Rattle.account.specs.Line.{joined}
use Rattle.account.specs.Judge.{record_row}
use Rattle.book.specs.declared.State.{State}
use Rattle.book.specs.WholeRecords.{records_of}
use Rattle.book.specs.State.{held_of}
use Rattle.book.specs.Run.{run}

-- the records that a run from s over xs accepts, of those that held bytes and run make together
abbrev pub accepted_records : State → List ℕ → List (List ℕ)
accepted_records s xs = take ((run s xs).state.account.records - s.account.records) (records_of (held_of s ++ xs))

-- the group after the record r, g being the one before it: a heading brings its own
abbrev pub group_by : ℕ → List ℕ → ℕ
group_by g r = by_sort (sort_of (record_row r)) g (val_at r 4 2) g g g

-- the group of the last heading record of rs; g where there is none
unfoldable pub last_group : ℕ → List (List ℕ) → ℕ
last_group g [] = g
last_group g (r ∷ rs) = last_group (group_by g r) rs

-- what a line bears: its kind and its group, read from its bytes
pub record Mark : Type 0 where
  pub kind : ℕ
  pub group : ℕ

abbrev pub mark_of : List ℕ → Mark
mark_of l = record { kind = val_at l 3 1; group = val_at l 4 2 }

-- a subtotal line bears its own group; there is none before the first heading
abbrev pub subtotal_mark : ℕ → List Mark
subtotal_mark g = pick (eqb g 0) [] (record { kind = 16; group = g } ∷ [])

-- what the lines of a record of kind k bear, g being the last group before it: what opens the book has no line, a new heading the subtotal of g;
-- a detail of the group bears g, one of the farm 0; the close has the subtotal of g and the total
abbrev pub own_mark : ℕ → ℕ → List Mark
own_mark g k =
    by_sort (sort_of k) []
    (subtotal_mark g)
    (record { kind = k; group = g } ∷ [])
    (record { kind = k; group = 0 } ∷ [])
    (subtotal_mark g ++ (record { kind = 8; group = 0 } ∷ []))

-- what the lines of the records rs bear, g being the last group before them
unfoldable pub marks_of : ℕ → List (List ℕ) → List Mark
marks_of g [] = []
marks_of g (r ∷ rs) = own_mark g (record_row r) ++ marks_of (last_group g (r ∷ [])) rs

-- some bytes are lines one after the other, which bear these marks
pub record Bears (marks : List Mark) (bytes : List ℕ) : Type 0 where
  pub lines : List (List ℕ)
  pub are : bytes ≡ joined lines
  pub bear : map mark_of lines ≡ marks
