-- Theorems: the words of a choice are as many as its numbers, each is read as its number, and what is usual lies within the field's range.
-- Assumes nothing.
use Prim.Native.Nat.{ℕ, suc}
use mathlib.Core.Bool.{Bool, true, false, ◌&&◌, ◌||◌, not}
use Rattle.std.specs.Prelude.{Option, Some, None}
use lib.ListN.{length}
use lib.Dec.{T, leb, eqb}
use Rattle.base.specs.Bytes.{index_of, index_after}
use Rattle.typed_words.specs.Words.{leading_of, nth_part, nth_word, same_text_lem, lowered}
use Rattle.typed_words.specs.Amounts.{number_from, amount_of}
use Rattle.codec.specs.Table.{table, fields, field_at}
use Rattle.names.specs.Names.{no_row, choice_table, is_choice, choice_word, chosen_from, chosen, decimals_table}
use Rattle.names.specs.declared.usual.Usual.{Usual}
use Rattle.names.specs.Usual.{usual_table, usual_in, usual_of}
use Rattle.names.proofs.Lines.{all_below}

-- it is n
abbrev pub is_number : Option ℕ → ℕ → Bool
is_number None n = false
is_number (Some m) n = eqb m n

-- the word for v is one, and is read as v
abbrev word_back : ℕ → ℕ → ℕ → Bool
word_back row i v = leb 1 (length (choice_word row i (suc v))) && is_number (chosen row i (choice_word row i (suc v))) (suc v)

-- each number of a choice has its word, the next number has none
abbrev choice_back : ℕ → ℕ → Bool
choice_back row i =
    not (is_choice row i)
    || ((eqb (field_at row i).1 1 && all_below (field_at row i).2 (word_back row i)) && eqb (length (choice_word row i (suc (field_at row i).2))) 0)

abbrev choices_back : ℕ → Bool
choices_back row = all_below (length (fields row)) (choice_back row)

pub all-chosen : T (all_below no_row choices_back)
unfolding all_below table choice_table chosen_from nth_part nth_word leading_of index_of index_after same_text_lem lowered
all-chosen = tt

-- from is at most to, and to at most the field's highest; three classes, and three columns
abbrev range_fits : ℕ → Option Usual → Bool
range_fits most None = true
range_fits most (Some u) = leb u.low u.high && leb u.high most

abbrev usual_fits : ℕ → ℕ → ℕ → Bool
usual_fits row i who = range_fits (field_at row i).2 (usual_of row i (suc who))

abbrev row_fits : ℕ → Bool
row_fits row = all_below (length (fields row)) (λ (i : ℕ). all_below 3 (usual_fits row i))

pub all-usual : T (all_below no_row row_fits)
unfolding all_below table usual_table usual_in decimals_table amount_of number_from nth_part nth_word leading_of index_of index_after
all-usual = tt
