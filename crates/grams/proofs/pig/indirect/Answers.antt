-- `grams::pig::indirect` meets its contract. Assumes nothing.
use Rattle.std.proofs.Common.{ap, ◌∙◌, arith}
use Rattle.grams.specs.Units.{as_n2o}
use Rattle.grams.proofs.Bounds.{◌⊗◌, ◌⊕◌, fits, gas}
use Rattle.grams.proofs.pig.Small.{pig-indirect-most}
use Rattle.grams.proofs.pig.indirect.Goals as goal

pub overflow_mul-volatilised : goal.overflow_mul-volatilised
overflow_mul-volatilised c = let p = c.requires in fits (p.1 ⊗ p.2) tt

pub overflow_mul-leached : goal.overflow_mul-leached
overflow_mul-leached c = let p = c.requires in fits (p.3 ⊗ p.4) tt

pub overflow_add-volatilised : goal.overflow_add-volatilised
overflow_add-volatilised c = let p = c.requires in fits (p.1 ⊗ p.2 ⊕ p.3 ⊗ p.4) tt

pub overflow_mul-n : goal.overflow_mul-n
overflow_mul-n c = let p = c.requires in fits (p.0 ⊗ (p.1 ⊗ p.2 ⊕ p.3 ⊗ p.4)) tt

pub to_n2o-requires : goal.to_n2o-requires
to_n2o-requires c = let p = c.requires in rw c.of.ensures (omega (arith, p.0 ⊗ (p.1 ⊗ p.2 ⊕ p.3 ⊗ p.4)))

pub returns : goal.returns
returns c = let p = c.requires in
    gas (pig-indirect-most p.0 p.1 p.2 p.3 p.4) (c.to_n2o.ensures ∙ ap as_n2o c.of.ensures)
