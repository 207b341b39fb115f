-- What is promised of the page of a closed book: each of its three tables adds up to the total line, as whole numbers of grams, some below zero.
-- Assumes nothing.
use Rattle.std.specs.Prelude.{ℕ, ◌≡◌, List, [], ◌∷◌, ◌++◌, length, drop}
use Rattle.base.specs.Signed.{signed_of}
use Rattle.line_bytes.specs.Lines.{total_bytes}
use Rattle.account.specs.Figures.{listed}
use Rattle.account.specs.Line.{total_of}
use Rattle.page.specs.declared.Group.{Group}
use Rattle.page.specs.declared.Source.{Source}
use Rattle.page.specs.declared.Survey.{Survey}
use Rattle.page.specs.Figures.{last_of, survey_of}
use Rattle.page_sums.specs.Tables.{Bar, groups_of, group_bars, source_rows, source_bars, sum_by, signed_by}

-- the figures at the feet of the tables, in the order of a line
abbrev pub feet : Survey → List ℕ
feet s = s.ch4 ∷ s.n2o ∷ s.co2 ∷ s.excreted ∷ s.land ∷ s.grazing ∷ []

-- they are those of the total line, byte for byte; a figure that no table shows would stand after them
abbrev pub TotalLine : List ℕ → Survey → Type 0
TotalLine xs s = total_of (last_of xs) ≡ total_bytes (feet s ++ drop (length (feet s)) (listed (last_of xs).sums)) s.total

-- the groups: each column, and CO2e with the farm's row
pub record GroupsAdd (xs : List ℕ) (s : Survey) : Type 0 where
  pub ch4 : sum_by (λ (g : Group). g.ch4) (groups_of xs) ≡ s.ch4
  pub n2o : sum_by (λ (g : Group). g.n2o) (groups_of xs) ≡ s.n2o
  pub excreted : sum_by (λ (g : Group). g.excreted) (groups_of xs) ≡ s.excreted
  pub land : sum_by (λ (g : Group). g.land) (groups_of xs) ≡ s.land
  pub grazing : sum_by (λ (g : Group). g.grazing) (groups_of xs) ≡ s.grazing
  pub co2e : signed_by (λ (b : Bar). b.co2e) (group_bars xs) ≡ signed_of s.total

-- the sources
pub record SourcesAdd (xs : List ℕ) (s : Survey) : Type 0 where
  pub ch4 : sum_by (λ (x : Source). x.ch4) (source_rows s.sources) ≡ s.ch4
  pub n2o : sum_by (λ (x : Source). x.n2o) (source_rows s.sources) ≡ s.n2o
  pub co2 : signed_by (λ (x : Source). x.co2) (source_rows s.sources) ≡ signed_of s.co2
  pub co2e : signed_by (λ (b : Bar). b.co2e) (source_bars xs) ≡ signed_of s.total

-- the gases: CO2e of CH4 and of N2O, CO2, and grazing
abbrev pub GasesAdd : Survey → Type 0
GasesAdd s = signed_by (λ (w : ℕ). w) (s.methane ∷ s.oxide ∷ s.co2 ∷ s.grazing ∷ []) ≡ signed_of s.total

-- all of it
pub record AddsUp (xs : List ℕ) : Type 0 where
  pub line : TotalLine xs (survey_of xs)
  pub groups : GroupsAdd xs (survey_of xs)
  pub sources : SourcesAdd xs (survey_of xs)
  pub gases : GasesAdd (survey_of xs)
