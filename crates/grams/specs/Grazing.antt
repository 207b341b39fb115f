-- Change request W10: CO2e of grazing, by equation 12 of source document 000 and its table 2.4.6. Assumes nothing.
use Rattle.std.specs.Prelude.{ℕ, ◌-◌, ◌*◌, ◌^◌, ◌≤◌, List, [], ◌∷◌, slice_index, slice_index_or}
use Rattle.grams.specs.Round.{round_div}
use Rattle.grams.specs.Units.{grams_grazed}
use Rattle.grams.specs.Figure.{Pasture}
use Rattle.grams.specs.declared.units.Grazed.{Grazed}
pub mod Cases

-- table 2.4.6 as printed, in hundredths of a tonne of CO2e for a tonne of live weight in a year: cows, heifers, calves
unfoldable pub pasture_table : List (List ℕ)
pasture_table =
    -- Atlantic provinces, Quebec, Ontario
    (190 ∷ 134 ∷ 116 ∷ [])
    ∷ (190 ∷ 134 ∷ 116 ∷ [])
    ∷ (190 ∷ 134 ∷ 116 ∷ [])
    -- Manitoba, Saskatchewan, Alberta
    ∷ (187 ∷ 132 ∷ 115 ∷ [])
    ∷ (183 ∷ 129 ∷ 112 ∷ [])
    ∷ (180 ∷ 127 ∷ 110 ∷ [])
    -- British Columbia
    ∷ (181 ∷ 128 ∷ 111 ∷ [])
    ∷ []

-- region and column, each counted from 1 in the table's order
unfoldable pub pasture_factor : ℕ → ℕ → ℕ
pasture_factor region column = slice_index (slice_index_or pasture_table (region - 1) []) (column - 1)

-- the ranges of a grazing record under its heading
pub record GrazingIn (region column weight fraction head : ℕ) : Type 0 where
  pub region-in : (1 ≤ region) × (region ≤ 7)
  pub column-in : (1 ≤ column) × (column ≤ 3)
  pub weight-in : weight ≤ 2000
  pub fraction-in : fraction ≤ 10000
  pub head_in : head ≤ 20000

-- CO2e = round(factor × weight × fraction × head / 1000)
unfoldable pub grazing_of : ℕ → ℕ → ℕ → ℕ → ℕ → Grazed
grazing_of region column weight fraction head = grams_grazed (round_div (pasture_factor region column * weight * fraction * head) 1000)

-- for the contract of grams::grazing::grazing: its figure, and how much that can be at most
abbrev pub Grazing : ℕ → ℕ → ℕ → ℕ → ℕ → Grazed → Type 0
Grazing region column weight fraction head r = Pasture (grazing_of region column weight fraction head) (10 ^ 11) r
