use Rattle.printing.proofs.Texts.{◌⟫◌, says-none}
use Rattle.names.specs.Usual.{usual_table}
use Rattle.names.proofs.UsualRanges.{for-word, for-nobody}
use Rattle.names.proofs.usual.say_for.Goals as goal

pub returns-then-not-goes_by : goal.returns-then-not-goes_by
unfolding usual_table
returns-then-not-goes_by c =
    rw (← c.cell-ranges.ensures, for-nobody _ 0 _ c.goes_by.ensures c.if-not-goes_by.true) says-none

pub returns : goal.returns
unfolding usual_table
returns c =
    rw (← c.cell-ranges.ensures, for-word _ 0 _ c.goes_by.ensures c.if-not-goes_by.false)
    (rw (c.word.ensures, c.range_for.ensures) at (c.say.ensures ⟫ c.say-2.ensures))
