-- Lines as they are printed: choices by their words, numbers with all their decimals.
-- Assumes nothing.
use mathlib.Core.Path.{◌≡◌, refl}
use mathlib.Core.List.{[], ◌∷◌}
use Rattle.base.specs.Bytes.{index_of, index_after}
use Rattle.typed_words.specs.Words.{leading_of, nth_part, nth_word}
use Rattle.printing.specs.Ascii.{ascii}
use Rattle.printing.specs.Decimal.{digits_by, decimal, without_last, last_digits, pointed}
use Rattle.names.specs.Names.{kind_table, choice_table, decimals_table}
use Rattle.retype.specs.Typed.{values_typed, line_typed}

by_word : (line_typed 2 (12 ∷ 1 ∷ 40 ∷ []) ≡ ascii "heading 12 milking 40\n")
    × (line_typed 9 (6 ∷ 3 ∷ 4 ∷ 20 ∷ 5 ∷ []) ≡ ascii "tillage semiarid-prairies fine reduced-to-intensive 20 0.05\n")
    × (line_typed 10 (7 ∷ 3 ∷ 120 ∷ 10000 ∷ []) ≡ ascii "grazing british-columbia calves 120 100.00\n")
unfolding values_typed kind_table choice_table decimals_table nth_part nth_word leading_of index_of index_after pointed without_last last_digits
    decimal digits_by
by_word = (refl, refl, refl)

with-decimals : (line_typed 3 (31 ∷ 30000 ∷ 650 ∷ []) ≡ ascii "enteric 31 300.00 6.50\n")
    × (line_typed 6 (1 ∷ 125 ∷ 70000 ∷ []) ≡ ascii "energy 1 12.5 70000\n")
    × (line_typed 7 (0 ∷ []) ≡ ascii "soil 0.00\n")
unfolding values_typed kind_table choice_table decimals_table nth_part nth_word leading_of index_of index_after pointed without_last last_digits
    decimal digits_by
with-decimals = (refl, refl, refl)

without : (line_typed 11 (7 ∷ 2010 ∷ 28 ∷ 265 ∷ []) ≡ ascii "farm 7 2010 28 265\n") × (line_typed 8 (4 ∷ []) ≡ ascii "close 4\n")
unfolding values_typed kind_table choice_table decimals_table nth_part nth_word leading_of index_of index_after pointed without_last last_digits
    decimal digits_by
without = (refl, refl)
