-- `grams::pig::nitrogen` meets its contract. Assumes nothing.
use Rattle.grams.proofs.Bounds.{◌⊗◌, num, fits, figure}
use Rattle.grams.proofs.pig.Small.{pig-nitrogen-most}
use Rattle.grams.proofs.pig.nitrogen.Goals as goal

pub overflow_mul-feed : goal.overflow_mul-feed
overflow_mul-feed c = let p = c.requires in fits (p.0 ⊗ p.1) tt

pub overflow_mul-feed-2 : goal.overflow_mul-feed-2
overflow_mul-feed-2 c = let p = c.requires in fits (p.0 ⊗ p.1 ⊗ p.2) tt

pub overflow_mul-feed-3 : goal.overflow_mul-feed-3
overflow_mul-feed-3 c = let p = c.requires in fits (p.0 ⊗ p.1 ⊗ p.2 ⊗ p.3) tt

pub overflow_mul-feed-4 : goal.overflow_mul-feed-4
overflow_mul-feed-4 c = let p = c.requires in fits (p.0 ⊗ p.1 ⊗ p.2 ⊗ p.3 ⊗ p.4) tt

pub overflow_mul-feed-5 : goal.overflow_mul-feed-5
overflow_mul-feed-5 c = let p = c.requires in fits (p.0 ⊗ p.1 ⊗ p.2 ⊗ p.3 ⊗ p.4 ⊗ num _) tt

pub returns : goal.returns
returns c = let p = c.requires in figure (pig-nitrogen-most p.0 p.1 p.2 p.3 p.4) c.round_div.ensures
