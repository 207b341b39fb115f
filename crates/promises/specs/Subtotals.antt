-- Document 02, W2: "The farm's CH4, N2O and both nitrogens are proved equal to the subtotals added up, each defined from the records." The
-- groups' subtotals and the farm's figures, record by record from the records alone: no state's running sum is in it.
-- Assumes nothing.
use Rattle.std.specs.Prelude.{ℕ, ◌+◌, List, [], ◌∷◌, ◌++◌, get_or, eqb}
use Rattle.base.specs.Choice.{pick}
use Rattle.codec.specs.Codec.{val_at}
use Rattle.account.specs.declared.Heading.{Heading}
use Rattle.account.specs.declared.Figures.{Figures}
use Rattle.account.specs.declared.Subtotal.{Subtotal}
use Rattle.account.specs.Sorts.{sort_of, by_sort}
use Rattle.account.specs.Figures.{added, no_subtotal, grouped, group_figures, figures_of}
use Rattle.account.specs.Line.{line_with}
use Rattle.account.specs.Account.{no_record}
use Rattle.account.specs.Judge.{record_row, values_of}
use Rattle.book.specs.State.{no_record_yet}
use Rattle.promises.specs.Headings.{accepted_records}

-- the figures of a detail record r under the heading h
abbrev pub detail_of : Heading → List ℕ → Figures
detail_of h r = figures_of h (record_row r) (values_of r)

-- a record that heads a group is the new heading
abbrev pub heading_after : Heading → List ℕ → Heading
heading_after h r =
    by_sort (sort_of (record_row r)) h
    (record { group = get_or (values_of r) 0 0; class = get_or (values_of r) 1 0; head = get_or (values_of r) 2 0 })
    h h h

-- a group's subtotal is that of its details; a new heading begins with nothing
abbrev pub group_after : Heading → Subtotal → List ℕ → Subtotal
group_after h s r = by_sort (sort_of (record_row r)) s no_subtotal (grouped s (detail_of h r)) s s

-- the farm's figures are those of all details, of groups and of the farm
abbrev pub farm_after : Heading → Figures → List ℕ → Figures
farm_after h f r = by_sort (sort_of (record_row r)) f f (added f (detail_of h r)) (added f (detail_of h r)) f

-- a group that has ended: its number and its subtotal
pub record Group : Type 0 where
  pub number : ℕ
  pub subtotal : Subtotal

-- the group under the heading h, where there is one
abbrev pub group_under : Heading → Subtotal → List Group
group_under h s = pick (eqb h.group 0) [] (record { number = h.group; subtotal = s } ∷ [])

-- a new heading and the close end the group before them
abbrev pub ends : Heading → Subtotal → List ℕ → List Group
ends h s r = by_sort (sort_of (record_row r)) [] (group_under h s) [] [] (group_under h s)

-- the groups that end in the records rs, in order, the heading h and its subtotal s so far being before them
unfoldable pub groups_of : Heading → Subtotal → List (List ℕ) → List Group
groups_of h s [] = []
groups_of h s (r ∷ rs) = ends h s r ++ groups_of (heading_after h r) (group_after h s r) rs

-- the farm's figures after the records rs
unfoldable pub farm_of : Heading → Figures → List (List ℕ) → Figures
farm_of h f [] = f
farm_of h f (r ∷ rs) = farm_of (heading_after h r) (farm_after h f r) rs

-- the figures of a whole book, and the groups of its records
abbrev pub farm : List ℕ → Figures
farm xs = farm_of no_record.heading no_record.sums (accepted_records no_record_yet xs)

abbrev pub groups : List ℕ → List Group
groups xs = groups_of no_record.heading no_record.subtotal (accepted_records no_record_yet xs)

-- one figure of the groups, added up
unfoldable pub added_up : (Subtotal → ℕ) → List Group → ℕ
added_up one [] = 0
added_up one (g ∷ gs) = one g.subtotal + added_up one gs

-- the line of a group that has ended
abbrev pub line_of_group : Group → List ℕ
line_of_group g = line_with 16 g.number (group_figures g.subtotal)

-- the subtotal lines among lines: those of kind 16
unfoldable pub subtotal_lines : List (List ℕ) → List (List ℕ)
subtotal_lines [] = []
subtotal_lines (l ∷ ls) = pick (eqb (val_at l 3 1) 16) (l ∷ subtotal_lines ls) (subtotal_lines ls)
