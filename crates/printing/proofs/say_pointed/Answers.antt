-- The digits are those of the number. Assumes nothing.
use mathlib.Core.Path.{◌∙◌}
use Rattle.printing.proofs.Sayings.{text-at-start}
use Rattle.printing.proofs.say_pointed.Goals as goal

pub returns : goal.returns
returns c = let digits =
    c.first_of.ensures ∙ text-at-start c.put_pointed-n.ensures.put in
    rw digits at c.say.ensures
