-- `grams::cattle::excreted` meets its contract. Assumes nothing.
use Rattle.grams.proofs.Bounds.{◌⊗◌, fits, figure}
use Rattle.grams.proofs.cattle.Small.{cattle-excreted-most}
use Rattle.grams.proofs.cattle.excreted.Goals as goal

pub overflow_mul-x : goal.overflow_mul-x
overflow_mul-x c = let p = c.requires in fits (p.0 ⊗ p.1) tt

pub overflow_mul-x-2 : goal.overflow_mul-x-2
overflow_mul-x-2 c = let p = c.requires in fits (p.0 ⊗ p.1 ⊗ p.2) tt

pub returns : goal.returns
returns c = let p = c.requires in figure (cattle-excreted-most p.0 p.1 p.2) c.round_div.ensures
