-- The invariant: the first that differs is among those that are left. Assumes nothing.
use mathlib.Core.Path.{◌≡◌, sym, ◌∙◌}
use native.Mathlib.Omega.{arith}
use Rattle.sheet.proofs.Held.{kind-is}
use Rattle.sheet.proofs.Places.{going_on, going-stop, going_end}
use Rattle.sheet.proofs.faults.bad_column.Goals as goal

pub returns-then-not-is_formed : goal.returns-then-not-is_formed
returns-then-not-is_formed c = let l = c.loop-j in
    rw (← kind-is _ c.unwrap_or-kind.ensures c.unsigned_cell-first.ensures)
    (going-stop l.invariant c.loop-j-test.true c.column_of.ensures.value c.read_column-k.ensures
    (sym c.is_formed.ensures ∙ c.if-not-is_formed.true))

pub loop-j-preserved : goal.loop-j-preserved
loop-j-preserved c = let l = c.loop-j in
    going_on l.invariant c.loop-j-test.true c.column_of.ensures.value c.read_column-k.ensures (sym c.is_formed.ensures ∙ c.if-not-is_formed.false)

pub returns : goal.returns
returns c = let end : c.loop-j.j ≡ 8 = omega arith in
    rw (← kind-is _ c.unwrap_or-kind.ensures c.unsigned_cell-first.ensures) (rw end at (going_end c.loop-j.invariant c.loop-j-test.false))
