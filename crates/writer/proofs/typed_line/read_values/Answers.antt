-- The invariant: so many values are read, and the rest is still to come. Assumes nothing.
use native.Mathlib.Omega.{arith}
use Rattle.writer.proofs.TypedLines.{reading-none, read_all, read-end, read-wrong, read-in, read_past}
use Rattle.writer.proofs.typed_line.read_values.Goals as goal
use Rattle.writer.proofs.typed_line.read_values.Goals.{then-count-lt13, else-count-lt13}

pub loop-count-preserved : goal.loop-count-preserved
loop-count-preserved c = let inv = c.loop-count.invariant in
    let number = c.read_value.ensures in
    elim c.if-count-lt13.branch [
      | then-count-lt13 w ↦ read-in inv (omega arith) c.word-word.ensures c.if-word-eq0.false number c.in-Some.is w.if-count-lt13.true w.values-is
      | else-count-lt13 w ↦ read_past inv (omega arith) c.word-word.ensures c.if-word-eq0.false number c.in-Some.is w.if-count-lt13.false
          w.values-is
    ]

pub loop-count-init : goal.loop-count-init
loop-count-init c = reading-none _ _

pub returns-then-word-eq0 : goal.returns-then-word-eq0
returns-then-word-eq0 c = read-end c.loop-count.invariant (omega arith) c.word-word.ensures c.if-word-eq0.true

pub returns-in_default : goal.returns-in_default
returns-in_default c = read-wrong c.loop-count.invariant (omega arith) c.word-word.ensures
    c.if-word-eq0.false c.read_value.ensures c.in_default.is

pub returns : goal.returns
returns c = read_all c.loop-count.invariant (omega arith)
