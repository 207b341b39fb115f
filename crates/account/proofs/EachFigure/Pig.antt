-- A pig record: values in the ranges of its fields are in those that the arithmetic asks for, and its figures are small.
-- Assumes nothing.
use Prim.Native.Nat.{ℕ, ◌+◌, ◌≤◌}
use mathlib.Core.Path.{◌≡◌}
use mathlib.Core.List.{List}
use native.Mathlib.Omega.{arith}
use lib.ListN.{get_or}
use Rattle.codec.specs.Table.{table, fields}
use Rattle.codec.specs.Codec.{first_bad}
use Rattle.grams.specs.Pig.{PigIn}
use Rattle.grams.proofs.pig.Small.{pig-ch4-small, pig-n2o-small, pig-excreted-small, pig-land-small}
use Rattle.account.specs.declared.Heading.{Heading}
use Rattle.account.specs.Figures.{pig_ration, figures_of}
use Rattle.account.specs.Told.{Small}
use Rattle.account.proofs.Sums.{pig-small}
use Rattle.account.proofs.Ranges.{good}

pub pig-in : (v : List ℕ) (head : ℕ) → head ≤ 20000 → first_bad (fields 5) v 0 ≡ 0 → get_or v 8 0 + get_or v 10 0 ≤ 1000 → PigIn (pig_ration v) head
unfolding table
pig-in v head h e p =
    let g = good 5 v e in
    record {
      days-in = omega arith;
      feed-in = omega arith;
      vs-in = omega arith;
      vsfactor-in = omega arith;
      mcf-in = omega arith;
      protein-in = omega arith;
      nfactor-in = omega arith;
      direct-in = omega arith;
      volatilisedef-in = omega arith;
      leachedef-in = omega arith;
      parts_in = p;
      head_in = h;
    }

pub pig-days : (v : List ℕ) → first_bad (fields 5) v 0 ≡ 0 → get_or v 0 0 ≤ 366
unfolding table
pig-days v e = let g = good 5 v e in omega arith

pub pig-parts : (v : List ℕ) → first_bad (fields 5) v 0 ≡ 0 → get_or v 8 0 + get_or v 10 0 ≤ 2000
unfolding table
pig-parts v e = let g = good 5 v e in omega arith

pub pig-figures : (h : Heading) (v : List ℕ) → h.head ≤ 20000 → first_bad (fields 5) v 0 ≡ 0
    → get_or v 8 0 + get_or v 10 0 ≤ 1000 → Small (figures_of h 5 v)
unfolding figures_of
pig-figures h v m e p =
    let i = pig-in v h.head m e p in pig-small _ (pig-ch4-small i) (pig-n2o-small i) (pig-excreted-small i) (pig-land-small i)
