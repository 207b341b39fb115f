-- Document 01, "The arithmetic": grams of CO2, with a sign; grams of N2O, and N2O-N, which becomes N2O through 44/28 only. Assumes nothing.
use Rattle.std.specs.Prelude.{ℕ, ◌*◌, ◌^◌, ◌≤◌, Bool, ℤ, pos, ◌+ℤ◌, nat_le, unsigned_abs}
use Rattle.base.specs.Signed.{word_of, signed_of}
use Rattle.grams.specs.declared.units.Co2.{Co2}
use Rattle.grams.specs.declared.units.Grazed.{Grazed}
use Rattle.grams.specs.declared.units.N2o.{N2o}
use Rattle.grams.specs.declared.units.N2oN.{N2oN}
use Rattle.grams.specs.Round.{round_div}

-- ---- CO2

-- so many grams of CO2; what a change of tillage takes up is below zero
abbrev pub grams_co2 : ℤ → Co2
grams_co2 z = record { 0 = word_of z }

-- how many grams it is
abbrev pub co2_grams : Co2 → ℤ
co2_grams c = signed_of c.0

-- 0 where a rule gives none
abbrev pub no_co2 : Co2
no_co2 = grams_co2 (pos 0)

abbrev pub plus_co2 : Co2 → Co2 → Co2
plus_co2 a b = grams_co2 (co2_grams a +ℤ co2_grams b)

-- at most so many records times 10^13 on both sides of zero, and the test of it
abbrev pub Co2Within : ℕ → Co2 → Type 0
Co2Within records c = unsigned_abs (co2_grams c) ≤ records * 10 ^ 13

abbrev pub co2_within : ℕ → Co2 → Bool
co2_within records c = nat_le (unsigned_abs (co2_grams c)) (records * 10 ^ 13)

-- the number that stands for it in a line's 8 bytes
abbrev pub co2_word : Co2 → ℕ
co2_word c = c.0

-- and the CO2 that such a number stands for
abbrev pub co2_of_word : ℕ → Co2
co2_of_word word = record { 0 = word }

-- ---- N2O

-- so many grams of N2O
abbrev pub grams_n2o : ℕ → N2o
grams_n2o grams = record { 0 = grams }

-- so many hundred-millionths of a gram of N2O-N
abbrev pub parts_n2o_n : ℕ → N2oN
parts_n2o_n parts = record { 0 = parts }

-- 44/28, which is 11/7, rounded to whole grams
abbrev pub as_n2o : N2oN → N2o
as_n2o n = grams_n2o (round_div (n.0 * 11) 700000000)

-- ---- CO2e of grazing, which is no gas

-- so many grams of it
abbrev pub grams_grazed : ℕ → Grazed
grams_grazed grams = record { 0 = grams }
