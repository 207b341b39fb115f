-- Document 02, W11: other warming factors. What the rules were before it, as far as a promise needs them.
-- Assumes nothing.
use Rattle.std.specs.Prelude.{ℕ, ◌≡◌, List, [], ◌∷◌, Bool, not, get_or, eqb}
use Rattle.codec.specs.Table.{fields, length_of, is_kind}
use Rattle.codec.specs.Codec.{val_at, values_at}
use Rattle.grams.specs.Farm.{set_factors, co2e_of}
use Rattle.account.specs.declared.Account.{Account}
use Rattle.account.specs.declared.Figures.{Figures}
use Rattle.account.specs.Line.{total_with}
use Rattle.account.specs.Account.{no_record}
use Rattle.account.specs.Judge.{version_of, kind_byte, values_of, value_refusals}
use Rattle.book.specs.State.{no_record_yet}
use Rattle.book.specs.Run.{run}
use Rattle.promises.specs.Headings.{accepted_records}
use Rattle.promises.specs.Subtotals.{farm}
use Rattle.promises.specs.Totals.{last_of}
use Rattle.promises.specs.WholeNumbers.{co2_sum, whole_co2e, last_signed}

-- the refusals of a whole record before: version 1 alone, and everything by the kind byte
abbrev pub refusals_before : Account → List ℕ → List (Bool × ℕ)
refusals_before a r =
    (not (eqb (version_of r) 1), 2)
    ∷ (not (is_kind (kind_byte r)), 3)
    ∷ (not (eqb (val_at r 0 2) (length_of (kind_byte r))), 4)
    ∷ value_refusals a (kind_byte r) (values_at (fields (kind_byte r)) r 4)

-- the warming set of a farm record of version 1
abbrev pub set_of : List ℕ → ℕ
set_of r = get_or (values_of r) 2 0

-- the total line before: the sums, and CO2e by the factors of the set
abbrev pub total_before : ℕ → Figures → List ℕ
total_before set f = total_with f (co2e_of (set_factors set) f.co2 f.ch4 f.n2o f.grazing)

-- the closed book xs gives the total of before, by this set: its last line, to the byte, and CO2e, in whole numbers
pub record OldTotal (set : ℕ) (xs : List ℕ) : Type 0 where
  pub line : last_of (run no_record_yet xs).lines ≡ total_before set (farm xs)
  pub co2e : last_signed (last_of (run no_record_yet xs).lines)
      ≡ whole_co2e (set_factors set) (co2_sum no_record.heading (accepted_records no_record_yet xs)) (farm xs)

-- the values of a farm record of version 1, and of the one of version 2 that gives the factors of the same set
abbrev pub by_set : ℕ → ℕ → ℕ → List ℕ
by_set farm year set = farm ∷ year ∷ set ∷ []

abbrev pub by_factors : ℕ → ℕ → ℕ → List ℕ
by_factors farm year set = farm ∷ year ∷ (set_factors set).ch4 ∷ (set_factors set).n2o ∷ []
