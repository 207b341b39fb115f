-- Each figure in its place. Assumes nothing.
use mathlib.Core.Path.{refl}
use Rattle.account.proofs.Figures.listed.Goals as goal

pub returns : goal.returns
returns c = rw (c.grams-n2o.ensures, c.word-co2.ensures, c.grams-grazing.ensures) refl
