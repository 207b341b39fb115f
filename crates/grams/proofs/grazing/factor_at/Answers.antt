-- `grams::grazing::factor_at` meets its contract: the code's array is the table. Assumes nothing.
use Rattle.std.proofs.Common.{refl}
use Rattle.grams.specs.Grazing.{pasture_table, pasture_factor}
use Rattle.grams.proofs.Bounds.{figure, fits}
use Rattle.grams.proofs.grazing.Small.{factor-most}
use Rattle.grams.proofs.grazing.factor_at.Goals as goal

pub overflow_cast-result : goal.overflow_cast-result
unfolding pasture_table pasture_factor
overflow_cast-result c = let p = c.requires in fits (factor-most _ _ (p.0, p.1) (p.2, p.3)) tt

pub returns : goal.returns
unfolding pasture_table pasture_factor
returns c = let p = c.requires in figure (factor-most _ _ (p.0, p.1) (p.2, p.3)) refl
