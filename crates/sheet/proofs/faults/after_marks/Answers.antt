-- The invariant: as many marks as are left, after the bytes gone through. Assumes nothing.
use mathlib.Core.Path.{refl, sym, ◌∙◌}
use native.Mathlib.Omega.{arith}
use mathlib.Core.Path.{◌≡◌}
use Prim.Native.Nat.{◌-◌}
use lib.Dec.{eqb}
use lib.ListN.{length, get_or}
use borrow.Author.Tests.{eq-eqb, ne_eqb}
use Rattle.base.specs.Choice.{pick}
use Rattle.sheet.proofs.faults.after_marks.Goals.{then-text-i, else-text-i}
use Rattle.sheet.proofs.Places.{marks-on, marks-stop, marks-end}
use Rattle.sheet.proofs.faults.after_marks.Goals as goal

pub returns-then-left-eq0 : goal.returns-then-left-eq0
returns-then-left-eq0 c = let l = c.loop-i in
    let a = c.args in
    (l.invariant.0, sym (marks-stop a.b a.text.now l.i l.left c.loop-i-test.true c.if-left-eq0.true) ∙ l.invariant.1)

pub loop-i-preserved : goal.loop-i-preserved
loop-i-preserved c = let l = c.loop-i in
    let a = c.args in
    let left : c.if-text-i.left ≡ pick (eqb (get_or a.text.now l.i 0) a.b) (l.left - 1) l.left =
    elim c.if-text-i.branch [
      | then-text-i w ↦ rw (w.left-is, eq-eqb _ _ w.if-text-i.true) refl
      | else-text-i w ↦ rw (w.left-is, ne_eqb _ _ w.if-text-i.false) refl
    ] in
    let on = marks-on a.b a.text.now l.i l.left c.loop-i-test.true c.if-left-eq0.false in
    (omega arith, rw left (sym on ∙ l.invariant.1))

pub returns : goal.returns
returns c = let l = c.loop-i in
    let a = c.args in
    let end : l.i ≡ length a.text.now = omega arith in
    (omega arith, rw end at (sym (marks-end a.b a.text.now l.i l.left c.loop-i-test.false) ∙ l.invariant.1))
