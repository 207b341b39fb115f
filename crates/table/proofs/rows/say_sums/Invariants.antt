-- The invariant: saying the sums that are left makes all. Assumes nothing.
use Rattle.std.proofs.Common.{◌+◌, ◌≤◌, drop}
use Rattle.line_bytes.specs.Lines.{figure_count}
use Rattle.printing.specs.Says.{Says}
use Rattle.printing.specs.declared.text.Text.{Text}
use Rattle.table.specs.Rows.{sums_text}
use Rattle.table.proofs.rows.say_sums.Given as goal

abbrev pub invariant-loop-k : goal.invariant-loop-k
invariant-loop-k l = (l.k ≤ 3 + figure_count)
    × ((end : Text) → Says l.out end (sums_text l.k (drop l.k l.sums)) → Says l.initial.out end (sums_text 2 (drop 2 l.sums)))
