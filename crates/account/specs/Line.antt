-- Document 01, "Lines, calls and state": the bytes of a detail's line, of a group's subtotal and of the close's line.
-- Assumes nothing.
use Rattle.std.specs.Prelude.{ℕ, List, [], ◌∷◌, ◌++◌, eqb}
use Rattle.base.specs.Choice.{pick}
use Rattle.line_bytes.specs.Lines.{line_size, total_size, subtotal_kind, line_bytes_lem, total_bytes}
use Rattle.grams.specs.Units.{co2_word}
use Rattle.grams.specs.Farm.{co2e_of}
use Rattle.grams.specs.declared.units.Co2.{Co2}
use Rattle.account.specs.declared.Account.{Account}
use Rattle.account.specs.declared.Figures.{Figures}
use Rattle.account.specs.declared.Heading.{Heading}
use Rattle.account.specs.declared.Judged.{Judged}
use Rattle.account.specs.Sorts.{sort_of, by_sort}
use Rattle.account.specs.Account.{factors_of}
use Rattle.account.specs.Figures.{listed, group_figures, figures_of}

-- a line of a kind, with a group and its figures
abbrev pub line_with : ℕ → ℕ → Figures → List ℕ
line_with kind group f = line_bytes_lem kind group (listed f)

-- the group that a line bears: the heading's for a detail of the group, else 0
abbrev pub group_of : Heading → ℕ → ℕ
group_of h row = by_sort (sort_of row) 0 0 h.group 0 0

-- a detail's line is a function of its heading and its values alone
abbrev pub line_of : Heading → ℕ → List ℕ → List ℕ
line_of h row v = line_with row (group_of h row) (figures_of h row v)

-- CO2e of the sums, by the farm's warming factors
abbrev pub co2e_in : Account → Co2
co2e_in a = co2e_of (factors_of a.farm) a.sums.co2 a.sums.ch4 a.sums.n2o a.sums.grazing

-- the close's line: the sums of the figures and CO2e
abbrev pub total_with : Figures → Co2 → List ℕ
total_with f co2e = total_bytes (listed f) (co2_word co2e)

abbrev pub total_of : Account → List ℕ
total_of a = total_with a.sums (co2e_in a)

-- the subtotal of the group that a new heading or the close ends: a line of the subtotal's kind with the group's number; none where there is no heading
abbrev pub subtotals : Account → List (List ℕ)
subtotals a = pick (eqb a.heading.group 0) [] (line_with subtotal_kind a.heading.group (group_figures a.subtotal) ∷ [])

-- lines one after the other
abbrev pub joined : List (List ℕ) → List ℕ
joined [] = []
joined (l ∷ ls) = l ++ joined ls

-- the bytes of lines that are yet to be written: none, those of a detail or a subtotal, of the total, or of a subtotal and the total
unfoldable pub bytes_of : Judged → List ℕ
bytes_of j =
    pick (eqb j.line.given 0) []
    (pick (eqb j.line.given line_size) (line_with j.line.kind j.line.group j.line.figures)
    (pick (eqb j.line.given total_size) (total_with j.account.sums j.line.co2e)
    (line_with j.line.kind j.line.group j.line.figures ++ total_with j.account.sums j.line.co2e)))
