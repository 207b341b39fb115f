use mathlib.Core.Path.{sym}
use Rattle.slip.specs.Slip.{what_if}
use Rattle.slip.proofs.Positive.{answers}
use Rattle.slip.proofs.what_if.Goals as goal

-- 14: a number of the ration or of the change is not in its range
pub returns-then-not-ration_in_range-change_in_range : goal.returns-then-not-ration_in_range-change_in_range
unfolding what_if
returns-then-not-ration_in_range-change_in_range c = let ration = c.ration_in_range in
    let change = c.change_in_range in
    answers
    (simp (
      c.refused.ensures,
      sym ration.ensures,
      sym change.ensures,
      c.if-not-ration_in_range-change_in_range.true,
    ))

-- 15: they are, and the changed value is not
pub returns-then-not-changed_in_range : goal.returns-then-not-changed_in_range
unfolding what_if
returns-then-not-changed_in_range c = let ration = c.ration_in_range in
    let change = c.change_in_range in
    let n = c.changed-n in
    let value = c.changed_in_range in
    answers
    (simp (
      c.refused-then-not-changed_in_range.ensures,
      sym ration.ensures,
      sym change.ensures,
      c.if-not-ration_in_range-change_in_range.false,
      sym n.ensures,
      sym value.ensures,
      c.if-not-changed_in_range.true,
    ))

pub returns : goal.returns
unfolding what_if
returns c = let ration = c.ration_in_range in
    let change = c.change_in_range in
    let n = c.changed-n in
    let value = c.changed_in_range in
    answers
    (simp (
      sym ration.ensures,
      sym change.ensures,
      c.if-not-ration_in_range-change_in_range.false,
      sym n.ensures,
      sym value.ensures,
      c.if-not-changed_in_range.false,
      sym c.kg_ch4-kg.ensures,
    ))
