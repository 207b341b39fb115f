-- `grams::pig::solids` meets its contract. Assumes nothing.
use Rattle.grams.proofs.Bounds.{◌⊗◌, fits, figure}
use Rattle.grams.proofs.pig.Small.{pig-solids-most}
use Rattle.grams.proofs.pig.solids.Goals as goal

pub overflow_mul-feed : goal.overflow_mul-feed
overflow_mul-feed c = let p = c.requires in fits (p.0 ⊗ p.1) tt

pub overflow_mul-feed-2 : goal.overflow_mul-feed-2
overflow_mul-feed-2 c = let p = c.requires in fits (p.0 ⊗ p.1 ⊗ p.2) tt

pub returns : goal.returns
returns c = let p = c.requires in figure (pig-solids-most p.0 p.1 p.2) c.round_div.ensures
