-- What is promised of the member's page, beside its text.
-- Assumes nothing.
use Rattle.std.specs.Prelude.{◌≡◌, ℕ, zero, suc, List, [], ◌++◌}
use Rattle.grams.specs.Units.{grams_n2o}
use Rattle.line_bytes.specs.Lines.{subtotal_kind, line_bytes_lem}
use Rattle.account.specs.declared.Subtotal.{Subtotal}
use Rattle.account.specs.Figures.{listed, group_figures}
use Rattle.page.specs.declared.Group.{Group}
use Rattle.page.specs.declared.Place.{Place}
use Rattle.page.specs.declared.Scale.{Scale}
use Rattle.page.specs.declared.Survey.{Survey}
use Rattle.page.specs.Page.{place_after, row_at}

-- ---- in parts

-- what so many calls print one after the other, each a record's row, from a place on
unfoldable pub rows_by : ℕ → Scale → Place → List ℕ → List ℕ
rows_by zero sc p xs = []
rows_by (suc n) sc p xs = row_at sc p xs ++ rows_by n sc (place_after p xs) xs

-- ---- the groups

-- the subtotal line of a group with the figures of its row
abbrev pub subtotal_of : Group → List ℕ
subtotal_of g =
    let s : Subtotal = record { ch4 = g.ch4; n2o = grams_n2o g.n2o; excreted = g.excreted; land = g.land } in
    line_bytes_lem subtotal_kind g.group (listed (group_figures s))

-- ---- no figures

-- two surveys of books with the same farm, year and count of records, both closed or both not; all figures may differ
pub record SameBook (s t : Survey) : Type 0 where
  pub closed : s.closed ≡ t.closed
  pub name : s.name ≡ t.name
  pub records : s.records ≡ t.records
