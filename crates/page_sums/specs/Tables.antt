-- The tables of the member's page as lists of rows, in the order in which the page prints them, and what a column of them adds up to.
-- Assumes nothing.
use Rattle.std.specs.Prelude.{ℕ, ◌+◌, List, [], ◌∷◌, ◌++◌, map, eqb, ℤ, pos, ◌+ℤ◌}
use Rattle.base.specs.Choice.{pick}
use Rattle.base.specs.Signed.{signed_of}
use Rattle.account.specs.declared.Account.{Account}
use Rattle.account.specs.Judge.{kind_byte}
use Rattle.page.specs.declared.Group.{Group}
use Rattle.page.specs.declared.Scale.{Scale}
use Rattle.page.specs.declared.Source.{Source}
use Rattle.page.specs.declared.Sources.{Sources}
use Rattle.page.specs.declared.Survey.{Survey}
use Rattle.page.specs.Over.{over_book}
use Rattle.page.specs.Bars.{plus8, no_step}
use Rattle.page.specs.Figures.{group_step, group_of, survey_of, of_farm}
use Rattle.page.specs.Parts.{group_text}
use Rattle.page.specs.Page.{ends_group}

-- ---- the rows of the groups

-- how far they have come: the step and grazing's sum at the last heading, and the rows so far
pub record GroupRows : Type 0 where
  pub from : ℕ
  pub grazed : ℕ
  pub rows : List Group

-- the row of the group that a record of the kind ends
abbrev pub rows_ended : GroupRows → Account → ℕ → List Group
rows_ended x a kind = pick (ends_group a kind) (group_of a x.from x.grazed ∷ []) []

-- with the record r after the account a
abbrev pub next_groups : GroupRows → Account → List ℕ → GroupRows
next_groups x a r =
    record {
      from = pick (eqb (kind_byte r) 2) (group_step a) x.from;
      grazed = pick (eqb (kind_byte r) 2) a.sums.grazing.0 x.grazed;
      rows = x.rows ++ rows_ended x a (kind_byte r);
    }

abbrev pub no_groups : GroupRows
no_groups = record { from = no_step; grazed = 0; rows = [] }

-- those of a book
unfoldable pub groups_of : List ℕ → List Group
groups_of xs = (over_book next_groups no_groups xs).rows

-- as the page prints them
unfoldable pub group_texts : Scale → List Group → List ℕ
group_texts sc [] = []
group_texts sc (g ∷ gs) = group_text sc g ++ group_texts sc gs

-- ---- the rows of the sources

abbrev pub source_rows : Sources → List Source
source_rows s = s.enteric ∷ s.cattle ∷ s.pig ∷ s.grazing ∷ s.energy ∷ s.soil ∷ s.tillage ∷ []

-- ---- CO2e and the bar of each row

-- CO2e together, the word of signed grams, and the steps between which the bar stands
pub record Bar : Type 0 where
  pub co2e : ℕ
  pub from : ℕ
  pub to : ℕ

abbrev pub group_bar : Group → Bar
group_bar g = record { co2e = g.co2e; from = g.from; to = g.to }

abbrev pub source_bar : Source → Bar
source_bar x = record { co2e = x.co2e; from = x.from; to = x.to }

-- the farm's row
abbrev pub farm_bar : Survey → Bar
farm_bar s = record { co2e = s.co2; from = s.groups; to = plus8 s.groups s.co2 }

-- the table of the groups: a row for each group, and the farm's where it has one
abbrev pub group_bars : List ℕ → List Bar
group_bars xs = let s = survey_of xs in map group_bar (groups_of xs) ++ pick (of_farm s) (farm_bar s ∷ []) []

-- the table of the sources
abbrev pub source_bars : List ℕ → List Bar
source_bars xs = map source_bar (source_rows (survey_of xs).sources)

-- ---- a column

-- grams, added
unfoldable pub sum_by : {A : Type 0} → (A → ℕ) → List A → ℕ
sum_by f [] = 0
sum_by f (x ∷ xs) = f x + sum_by f xs

-- words of signed grams, added as whole numbers
unfoldable pub signed_by : {A : Type 0} → (A → ℕ) → List A → ℤ
signed_by f [] = pos 0
signed_by f (x ∷ xs) = signed_of (f x) +ℤ signed_by f xs
