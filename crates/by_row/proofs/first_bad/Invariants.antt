-- The invariant: the first value out of its range is among those that are left. Assumes nothing.
use mathlib.Core.Path.{◌≡◌}
use lib.ListN.{drop}
use Rattle.codec.specs.Table.{fields}
use Rattle.codec.specs.Codec.{first_bad}
use Rattle.by_row.proofs.first_bad.Given as goal

abbrev pub invariant-loop-i : goal.invariant-loop-i
invariant-loop-i l = (first_bad (drop l.i (fields l.row)) l.v l.i ≡ first_bad (fields l.row) l.v 0)
