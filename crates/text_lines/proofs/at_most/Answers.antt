-- The whole slice, or its beginning. Assumes nothing.
use mathlib.Core.Path.{sym}
use native.Mathlib.Nat.{le_of_lt}
use lib.Seq.{take_all, length-take-le}
use Rattle.text_lines.proofs.at_most.Goals as goal

pub returns-then-s-n : goal.returns-then-s-n
returns-then-s-n c = sym (take_all _ _ c.if-s-n.true)

pub slice_bounds-result-end : goal.slice_bounds-result-end
slice_bounds-result-end c = sym (length-take-le _ _ (le_of_lt c.if-s-n.false))
