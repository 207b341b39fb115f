-- `grams::cattle::direct` meets its contract. Assumes nothing.
use Rattle.std.proofs.Common.{ap, ◌∙◌}
use Rattle.grams.specs.Units.{as_n2o}
use Rattle.grams.proofs.Bounds.{◌⊗◌, ◌⊕◌, num, below, fits, gas}
use Rattle.grams.proofs.cattle.Small.{cattle-direct-most}
use Rattle.grams.proofs.cattle.direct.Goals as goal

pub overflow_mul-n-2 : goal.overflow_mul-n-2
overflow_mul-n-2 c = let p = c.requires in fits (p.0 ⊗ num _ ⊗ (p.1 ⊕ p.2)) tt

pub to_n2o-requires : goal.to_n2o-requires
to_n2o-requires c = let p = c.requires in rw c.of.ensures (below (p.0 ⊗ num _ ⊗ (p.1 ⊕ p.2) ⊗ num _) tt)

pub returns : goal.returns
returns c = let p = c.requires in
    gas (cattle-direct-most p.0 p.1 p.2) (c.to_n2o.ensures ∙ ap as_n2o c.of.ensures)
