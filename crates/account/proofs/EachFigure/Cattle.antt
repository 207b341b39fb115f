-- A cattle nitrogen record: values in the ranges of its fields are in those that the arithmetic asks for, and its figures are small.
-- Assumes nothing.
use Prim.Native.Nat.{ℕ, ◌+◌, ◌≤◌}
use mathlib.Core.Path.{◌≡◌}
use mathlib.Core.List.{List}
use native.Mathlib.Omega.{arith}
use lib.ListN.{get_or}
use Rattle.codec.specs.Table.{table, fields}
use Rattle.codec.specs.Codec.{first_bad}
use Rattle.grams.specs.Cattle.{CattleIn}
use Rattle.grams.proofs.cattle.Small.{cattle-excreted-small, cattle-n2o-small}
use Rattle.account.specs.declared.Heading.{Heading}
use Rattle.account.specs.Figures.{cattle_ration, figures_of}
use Rattle.account.specs.Told.{Small}
use Rattle.account.proofs.Sums.{cattle-small}
use Rattle.account.proofs.Ranges.{good}

pub cattle-in : (v : List ℕ) (head : ℕ) → head ≤ 20000 → first_bad (fields 4) v 0 ≡ 0 → CattleIn (cattle_ration v) head
unfolding table
cattle-in v head h e =
    let g = good 4 v e in
    record {
      days-in = omega arith;
      feed-in = omega arith;
      protein-in = omega arith;
      milk-in = omega arith;
      milkprotein-in = omega arith;
      gain-in = omega arith;
      solid-in = omega arith;
      liquid-in = omega arith;
      head_in = h;
    }

-- each share is 10000 at most
pub cattle-shares : (v : List ℕ) → first_bad (fields 4) v 0 ≡ 0 → get_or v 6 0 + get_or v 7 0 + get_or v 8 0 ≤ 30000
unfolding table
cattle-shares v e = let g = good 4 v e in omega arith

pub cattle-figures : (h : Heading) (v : List ℕ) → h.head ≤ 20000 → first_bad (fields 4) v 0 ≡ 0 → Small (figures_of h 4 v)
unfolding figures_of
cattle-figures h v m e = let i = cattle-in v h.head m e in cattle-small _ (cattle-n2o-small i) (cattle-excreted-small i)
