-- Document 01, "The book": what a record of each kind is. It opens the book, heads a group, is a detail of the group, is a detail of the farm, or
-- closes the book. What it does, which group its line bears and what counts in a subtotal goes by that alone.
-- Assumes nothing.
use Rattle.std.specs.Prelude.{ℕ, Bool, true, false, ◌||◌, eqb}
use Rattle.base.specs.Choice.{pick}
use Rattle.codec.specs.Table.{last_row}
use Rattle.account.specs.declared.sort.Sort.{Sort}
use Rattle.account.specs.declared.sort.Sort.TheVariants.{Opens, Heads, OfGroup, OfFarm, Closes}

-- the farm record of version 1, or of version 2
abbrev pub is_farm : ℕ → Bool
is_farm row = eqb row 1 || eqb row last_row

-- the farm record, of either version, opens, a heading heads; enteric, cattle, pig and grazing records are the group's; the close closes; all
-- others are the farm's
unfoldable pub sort_of : ℕ → Sort
sort_of row =
    pick (is_farm row) Opens
    (pick (eqb row 2) Heads
    (pick (eqb row 3 || (eqb row 4 || (eqb row 5 || eqb row 10))) OfGroup
    (pick (eqb row 8) Closes OfFarm)))

-- one of five by the sort, in the order above
abbrev pub by_sort : {A : Type 0} → Sort → A → A → A → A → A → A
by_sort Opens o h g f c = o
by_sort Heads o h g f c = h
by_sort OfGroup o h g f c = g
by_sort OfFarm o h g f c = f
by_sort Closes o h g f c = c

-- a detail of the group
abbrev pub is_of_group : ℕ → Bool
is_of_group row = by_sort (sort_of row) false false true false false
