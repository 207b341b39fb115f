-- The last row, or another. Assumes nothing.
use mathlib.Core.Path.{refl}
use borrow.Author.Tests.{eq-eqb, ne_eqb}
use Rattle.by_row.proofs.table.version_of.Goals as goal

pub returns-then-row-eq-FARM_FACTORS : goal.returns-then-row-eq-FARM_FACTORS
returns-then-row-eq-FARM_FACTORS c = rw (eq-eqb _ _ c.if-row-eq-FARM_FACTORS.true) refl

pub returns-else-row-eq-FARM_FACTORS : goal.returns-else-row-eq-FARM_FACTORS
returns-else-row-eq-FARM_FACTORS c = rw (ne_eqb _ _ c.if-row-eq-FARM_FACTORS.false) refl
