-- Assumes nothing.
use mathlib.Core.Bool.{not}
use mathlib.Core.Path.{ap}
use Rattle.printing.proofs.Texts.{◌⟫◌, says-none}
use Rattle.compare.proofs.Wordings.{next-none, next-some}
use Rattle.compare.proofs.in_words.say_next.Goals as goal

pub returns-then-not-alone-v : goal.returns-then-not-alone-v
returns-then-not-alone-v c = let a = c.args in rw (next-none a.any a.alone a.row a.i a.v a.w (ap not c.if-not-alone-v.true)) says-none

pub returns : goal.returns
returns c = let a = c.args in
    rw (next-some a.any a.alone a.row a.i a.v a.w (ap not c.if-not-alone-v.false)) (c.say_between.ensures ⟫ c.say_field.ensures)
