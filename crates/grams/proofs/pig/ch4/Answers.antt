-- `grams::pig::ch4` meets its contract. Assumes nothing.
use Rattle.grams.proofs.Bounds.{◌⊗◌, num, fits, figure}
use Rattle.grams.proofs.pig.Small.{pig-ch4-most}
use Rattle.grams.proofs.pig.ch4.Goals as goal

pub overflow_mul-v : goal.overflow_mul-v
overflow_mul-v c = let p = c.requires in fits (p.0 ⊗ p.1) tt

pub overflow_mul-v-2 : goal.overflow_mul-v-2
overflow_mul-v-2 c = let p = c.requires in fits (p.0 ⊗ p.1 ⊗ p.2) tt

pub overflow_mul-v-3 : goal.overflow_mul-v-3
overflow_mul-v-3 c = let p = c.requires in fits (p.0 ⊗ p.1 ⊗ p.2 ⊗ p.3) tt

pub overflow_mul-v-4 : goal.overflow_mul-v-4
overflow_mul-v-4 c = let p = c.requires in fits (p.0 ⊗ p.1 ⊗ p.2 ⊗ p.3 ⊗ num _) tt

pub returns : goal.returns
returns c = let p = c.requires in figure (pig-ch4-most p.0 p.1 p.2 p.3) c.round_div.ensures
