-- `grams::pig::land` meets its contract. Assumes nothing.
use Rattle.grams.proofs.Bounds.{◌⊗◌, num, less, fits, figure}
use Rattle.grams.proofs.pig.Small.{pig-land-most}
use Rattle.grams.proofs.pig.land.Goals as goal

pub overflow_mul-n : goal.overflow_mul-n
overflow_mul-n c = fits (c.requires.0 ⊗ less _ (less _ (num _))) tt

pub returns : goal.returns
returns c = let s = c in figure (pig-land-most s.requires.0 s.args.volatilised s.args.leached) c.round_div.ensures
