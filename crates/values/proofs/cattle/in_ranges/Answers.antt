-- `values::cattle::in_ranges` meets its contract. Assumes nothing.
use mathlib.Core.Path.{refl}
use lib.ListN.{drop}
use Rattle.codec.specs.Table.{table, fields}
use Rattle.values.proofs.AllIn.{all_told}
use Rattle.values.proofs.cattle.in_ranges.Goals as goal

pub returns : goal.returns
unfolding table
returns c = all_told _ (drop 1 (fields 4)) _ refl
