-- The kilograms, the point, the grams. Assumes nothing.
use Rattle.printing.proofs.Texts.{◌⟫◌}
use Rattle.kilograms.proofs.Threes.{threes-all}
use Rattle.kilograms.proofs.say_pointed.Goals as goal

pub returns : goal.returns
returns c =
    rw (c.first_of.ensures, threes-all c.args.digits.now c.args.n c.requires) at c.say_threes.ensures
    ⟫ c.say.ensures
    ⟫ rw c.rest_of.ensures at c.say-2.ensures
