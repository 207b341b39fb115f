-- `grams::tillage_table::towards_less` meets its contract: the code's array is the table. Assumes nothing.
use Rattle.std.proofs.Common.{refl, arith}
use Rattle.grams.specs.TillageTable.{PlaceIn, less_tillage, less_of}
use Rattle.grams.proofs.Bounds.{fits}
use Rattle.grams.proofs.tillage_table.Pairs.{less-lum-most, less-k-most}
use Rattle.grams.proofs.tillage_table.towards_less.Goals as goal

pub overflow_cast-result : goal.overflow_cast-result
unfolding less_tillage less_of
overflow_cast-result c =
    let place : PlaceIn c.args.zone c.args.texture c.args.n = let p = c.requires in record { zone-in = (p.0, p.1); texture-in = (p.2, p.3); change-in = (p.4, omega (arith, p.5)) } in
    fits (less-lum-most place) tt

pub overflow_cast-result-2 : goal.overflow_cast-result-2
unfolding less_tillage less_of
overflow_cast-result-2 c =
    let place : PlaceIn c.args.zone c.args.texture c.args.n = let p = c.requires in record { zone-in = (p.0, p.1); texture-in = (p.2, p.3); change-in = (p.4, omega (arith, p.5)) } in
    fits (less-k-most place) tt

pub returns : goal.returns
unfolding less_tillage less_of
returns c = refl
