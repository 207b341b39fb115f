-- `grams::cattle::enteric` meets its contract. Assumes nothing.
use Rattle.grams.specs.Cattle.{enteric_of}
use Rattle.grams.proofs.Bounds.{◌⊗◌, fits, figure}
use Rattle.grams.proofs.cattle.Small.{enteric-small}
use Rattle.grams.proofs.cattle.enteric.Goals as goal

pub returns : goal.returns
unfolding enteric_of
returns c = figure (enteric-small c.requires) c.round_div.ensures

pub overflow_mul-ge : goal.overflow_mul-ge
overflow_mul-ge c = let p = c.requires in fits (p.ge-in ⊗ p.ym-in) tt

pub overflow_mul-ge-2 : goal.overflow_mul-ge-2
overflow_mul-ge-2 c = let p = c.requires in fits (p.ge-in ⊗ p.ym-in ⊗ p.head_in) tt

pub overflow_mul-ge-3 : goal.overflow_mul-ge-3
overflow_mul-ge-3 c = let p = c.requires in fits (p.ge-in ⊗ p.ym-in ⊗ p.head_in ⊗ p.days-in) tt
