-- Document 01, "Total: each figure summed over the lines. CO2e = CO2 + a × CH4 + b × N2O", with a sign (document 02, W7) and with grazing (W10): in
-- whole numbers, above and below zero: nothing is cut to a word of 64 bits.
-- Assumes nothing.
use Rattle.std.specs.Prelude.{ℕ, ◌+◌, ◌-◌, ◌*◌, ◌≡◌, List, [], ◌∷◌, true, ℤ, pos, ◌+ℤ◌, length, get_or}
use Rattle.base.specs.Signed.{signed_of}
use Rattle.codec.specs.Table.{fields}
use Rattle.codec.specs.Codec.{val_at, first_bad}
use Rattle.grams.specs.Round.{round_div}
use Rattle.grams.specs.Tillage.{co2_of, record_mg}
use Rattle.grams.specs.Units.{co2_grams}
use Rattle.grams.specs.declared.farm.Factors.{Factors}
use Rattle.account.specs.declared.Figures.{Figures}
use Rattle.account.specs.declared.Heading.{Heading}
use Rattle.account.specs.Sorts.{sort_of, by_sort, is_of_group}
use Rattle.account.specs.Figures.{figures_of}
use Rattle.account.specs.Judge.{record_row}
use Rattle.promises.specs.Subtotals.{detail_of, heading_after}

-- the CO2 of a detail with the values v, in their ranges, is the number that document 01 and W7 give; a detail of the group has none
pub record Co2Worked (h : Heading) (v : List ℕ) : Type 0 where
  pub energy : first_bad (fields 6) v 0 ≡ 0 → co2_grams (figures_of h 6 v).co2 ≡ pos (round_div (get_or v 1 0 * get_or v 2 0) 10)
  pub soil : first_bad (fields 7) v 0 ≡ 0 → co2_grams (figures_of h 7 v).co2 ≡ pos (round_div (get_or v 0 0 * 550000) 3)
  pub tillage : first_bad (fields 9) v 0 ≡ 0
      → co2_grams (figures_of h 9 v).co2 ≡ co2_of (record_mg (get_or v 0 0) (get_or v 1 0) (get_or v 2 0) (get_or v 3 0)) (get_or v 4 0)
  pub none : (row : ℕ) → is_of_group row ≡ true → co2_grams (figures_of h row v).co2 ≡ pos 0

-- the grams of CO2 of a record r under the heading h: a detail's own; other records have none
abbrev pub record_co2 : Heading → List ℕ → ℤ
record_co2 h r = by_sort (sort_of (record_row r)) (pos 0) (pos 0) (co2_grams (detail_of h r).co2) (co2_grams (detail_of h r).co2) (pos 0)

-- those of the records rs, the heading h being before them, added up
unfoldable pub co2_sum : Heading → List (List ℕ) → ℤ
co2_sum h [] = pos 0
co2_sum h (r ∷ rs) = record_co2 h r +ℤ co2_sum (heading_after h r) rs

-- CO2 + a × CH4 + b × N2O + grazing: so many grams of CO2, and the other figures of f
abbrev pub whole_co2e : Factors → ℤ → Figures → ℤ
whole_co2e w co2 f = co2 +ℤ pos (w.ch4 * f.ch4 + w.n2o * f.n2o.0 + f.grazing.0)

-- the last eight bytes of a line, read as a signed number
abbrev pub last_signed : List ℕ → ℤ
last_signed l = signed_of (val_at l (length l - 8) 8)
