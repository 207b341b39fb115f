-- One column after the other. Assumes nothing.
use Rattle.std.proofs.Common.{◌≡◌, ◌+◌, ◌≤◌, length}
use Rattle.line_bytes.specs.Lines.{figure_count}
use Rattle.table.proofs.Adding.{so_far}
use Rattle.table.proofs.sums.plus_each.Given as goal

abbrev pub invariant-loop-k : goal.invariant-loop-k
invariant-loop-k l = (length l.sums ≡ 3 + figure_count) × (l.k ≤ 3 + figure_count) × (so_far l.numbers l.sums l.k ≡ so_far l.numbers l.initial.sums 0)
