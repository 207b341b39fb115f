-- The figures of each kind of detail: what they are at most, and what is unfolded to compute them. A new kind is a case more here; what is its own
-- stands in a file below.
-- Assumes nothing.
use Prim.Native.Nat.{ℕ, ◌≤◌}
use mathlib.Core.Path.{◌≡◌, refl}
use mathlib.Core.Bool.{true, false}
use mathlib.Core.List.{List}
use borrow.Author.Tests.{ltb-false}
use lib.Dec.{eqb}
use Rattle.base.proofs.Tests.{no_bool, of-choice}
use Rattle.codec.specs.Table.{fields, is_row}
use Rattle.codec.specs.Codec.{first_bad}
use Rattle.codec.proofs.EachKind.{each_row}
use Rattle.grams.specs.Round.{round_div}
use Rattle.grams.specs.Cattle as cattle
use Rattle.grams.specs.Pig as pig
use Rattle.grams.specs.Farm.{energy_of, soil_of}
use Rattle.grams.specs.TillageTable.{less_tillage, less_of, pair_of}
use Rattle.grams.specs.CarbonRate.{steps, exp_of, rate_of, mg_of}
use Rattle.grams.specs.Tillage.{co2_of, tillage_of}
use Rattle.grams.specs.Grazing.{pasture_table, pasture_factor, grazing_of}
use Rattle.account.specs.declared.Figures.{Figures}
use Rattle.account.specs.declared.Heading.{Heading}
use Rattle.account.specs.declared.sort.Sort.TheVariants.{OfFarm}
use Rattle.account.specs.Sorts.{sort_of}
use Rattle.account.specs.Figures.{figures_of}
use Rattle.account.specs.Judge.{parts_wrong}
use Rattle.account.specs.Told.{Small}
use Rattle.account.proofs.Sorts.{not-of-group}
use Rattle.account.proofs.Details.{DetailKind}
use Rattle.account.proofs.EachFigure.Enteric.{enteric-figures}
use Rattle.account.proofs.EachFigure.Cattle.{cattle-figures}
use Rattle.account.proofs.EachFigure.Pig.{pig-figures}
use Rattle.account.proofs.EachFigure.Energy.{energy-figures}
use Rattle.account.proofs.EachFigure.Soil.{soil-figures}
use Rattle.account.proofs.EachFigure.Tillage.{tillage-figures}
use Rattle.account.proofs.EachFigure.Grazing.{grazing-figures}
pub mod Enteric
pub mod Cattle
pub mod Pig
pub mod Energy
pub mod Soil
pub mod Tillage
pub mod Grazing

-- values in range give small figures
pub figures-small : (h : Heading) (v : List ℕ) → h.head ≤ 20000 → (k : ℕ) → is_row k ≡ true → DetailKind k → first_bad (fields k) v 0 ≡ 0
    → parts_wrong k v ≡ false → Small (figures_of h k v)
unfolding sort_of
figures-small h v m =
    each_row (λ (k : ℕ). DetailKind k → first_bad (fields k) v 0 ≡ 0 → parts_wrong k v ≡ false → Small (figures_of h k v)) (
      (λ d. no_bool d),
      (
        (λ d. no_bool d),
        (
          (λ d e p. enteric-figures h v m e),
          (
            (λ d e p. cattle-figures h v m e),
            (
              (λ d e p. pig-figures h v m e (ltb-false _ _ p)),
              (
                (λ d e p. energy-figures h v e),
                (
                  (λ d e p. soil-figures h v e),
                  (
                    (λ d. no_bool d),
                    ((λ d e p. tillage-figures h v e), ((λ d e p. grazing-figures h v m e), ((λ d. no_bool d), tt))),
                  ),
                ),
              ),
            ),
          ),
        ),
      ),
    )

-- none of the figures that a group has
pub record NotOfGroup (f : Figures) : Type 0 where
  pub ch4 : f.ch4 ≡ 0
  pub n2o : f.n2o.0 ≡ 0
  pub excreted : f.excreted ≡ 0
  pub land : f.land ≡ 0

-- a detail of the farm gives none
pub of-farm : (h : Heading) (k : ℕ) (v : List ℕ) → sort_of k ≡ OfFarm → NotOfGroup (figures_of h k v)
unfolding figures_of
of-farm h k v e =
    let n = not-of-group k e in
    rw (n.0, n.1.0, n.1.1.0, n.1.1.1)
    (of-choice NotOfGroup (eqb k 6) (λ e. record { ch4 = refl; n2o = refl; excreted = refl; land = refl })
    (λ e. of-choice NotOfGroup (eqb k 7) (λ e. record { ch4 = refl; n2o = refl; excreted = refl; land = refl })
    (λ e. record { ch4 = refl; n2o = refl; excreted = refl; land = refl })))

-- the figures down to their grams: who computes a book unfolds this
unfoldable pub computed : Heading → ℕ → List ℕ → Figures
unfolding figures_of round_div cattle.enteric_of cattle.manure_of pig.manure_of energy_of soil_of less_tillage less_of pair_of steps exp_of rate_of mg_of co2_of tillage_of pasture_table pasture_factor grazing_of
computed = figures_of
