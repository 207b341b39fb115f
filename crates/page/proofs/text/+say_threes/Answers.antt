-- By the spaces that are left, which fall. Assumes nothing.
use Rattle.printing.proofs.Texts.{◌⟫◌}
use Rattle.page.proofs.Texts.{threes-none, threes-small, threes-more}
use Rattle.page.proofs.text.+say_threes.Goals as goal

pub returns-then-most-eq0 : goal.returns-then-most-eq0
returns-then-most-eq0 t c = rw (threes-none _ c.args.v c.if-most-eq0.true) c.say_number.ensures

pub returns-then-v-lt1000 : goal.returns-then-v-lt1000
returns-then-v-lt1000 t c = rw (threes-small c.args.most c.args.v c.if-v-lt1000.true) c.say_number-then-v-lt1000.ensures

pub returns : goal.returns
returns t c =
    rw (threes-more c.args.most c.args.v c.if-most-eq0.false c.if-v-lt1000.false)
    (c.say_threes.ensures ⟫ c.say.ensures ⟫ c.say_three.ensures)
