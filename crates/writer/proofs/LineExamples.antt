-- Typed lines, computed: what the definition says of some of them.
-- Assumes nothing.
use mathlib.Core.Path.{◌≡◌, refl}
use mathlib.Core.List.{[], ◌∷◌}
use Rattle.base.specs.Bytes.{index_of, index_after}
use Rattle.printing.specs.Ascii.{ascii}
use Rattle.typed_words.specs.Words.{leading_of, nth_word, same_text_lem, lowered, nth_part}
use Rattle.typed_words.specs.Amounts.{number_from, amount_of}
use Rattle.codec.specs.Table.{table}
use Rattle.names.specs.Names.{kind_table, choice_table, chosen_from, decimals_table}
use Rattle.writer.specs.declared.typed_line.Said.TheVariants.{Nothing, Record, Wrong}
use Rattle.writer.specs.Line.{named_from, kind_of, row_of_line, value_at, values_from, entry, no_record, line_said, completed_of}

pub by_name : line_said (ascii "heading 12 1 40") ≡ record { said = Record; entry = entry 2 (12 ∷ 1 ∷ 40 ∷ []) }
unfolding line_said kind_of row_of_line kind_table named_from values_from value_at leading_of nth_word same_text_lem lowered amount_of number_from
    decimals_table table
    chosen_from choice_table nth_part index_of index_after
by_name = refl

-- names and choices in capitals or not
pub in-capitals : line_said (ascii "HEADING 12 Milking 40") ≡ record { said = Record; entry = entry 2 (12 ∷ 1 ∷ 40 ∷ []) }
unfolding line_said kind_of row_of_line kind_table named_from values_from value_at leading_of nth_word same_text_lem lowered amount_of number_from
    decimals_table table
    chosen_from choice_table nth_part index_of index_after
in-capitals = refl

-- always in the unit that people say
pub by_number : line_said (ascii "3 31 340 6.5") ≡ record { said = Record; entry = entry 3 (31 ∷ 34000 ∷ 650 ∷ []) }
unfolding line_said kind_of row_of_line kind_table named_from values_from value_at leading_of nth_word same_text_lem lowered amount_of number_from
    decimals_table table
    chosen_from choice_table nth_part index_of index_after
by_number = refl

pub with-points : line_said (ascii "enteric 31 340.00 6.50") ≡ record { said = Record; entry = entry 3 (31 ∷ 34000 ∷ 650 ∷ []) }
unfolding line_said kind_of row_of_line kind_table named_from values_from value_at leading_of nth_word same_text_lem lowered amount_of number_from
    decimals_table table
    chosen_from choice_table nth_part index_of index_after
with-points = refl

pub close-alone : line_said (ascii "close") ≡ record { said = Record; entry = entry 8 ([]) }
unfolding line_said kind_of row_of_line kind_table named_from values_from value_at leading_of nth_word same_text_lem lowered amount_of number_from
    decimals_table table
    chosen_from choice_table nth_part index_of index_after
close-alone = refl

pub tillage : line_said (ascii "tillage 5 medium intensive-to-no 10 50") ≡ record { said = Record; entry = entry 9 (5 ∷ 2 ∷ 3 ∷ 10 ∷ 5000 ∷ []) }
unfolding line_said kind_of row_of_line kind_table named_from values_from value_at leading_of nth_word same_text_lem lowered amount_of number_from
    decimals_table table
    chosen_from choice_table nth_part index_of index_after
tillage = refl

-- half of the year's intake
pub grazing : line_said (ascii "grazing Ontario cows 600 50.00") ≡ record { said = Record; entry = entry 10 (3 ∷ 1 ∷ 600 ∷ 5000 ∷ []) }
unfolding line_said kind_of row_of_line kind_table named_from values_from value_at leading_of nth_word same_text_lem lowered amount_of number_from
    decimals_table table
    chosen_from choice_table nth_part index_of index_after
grazing = refl

-- a farm record of version 1, and with four values one of version 2
pub farm-set : line_said (ascii "farm 7 2010 1") ≡ record { said = Record; entry = entry 1 (7 ∷ 2010 ∷ 1 ∷ []) }
unfolding line_said kind_of row_of_line kind_table named_from values_from value_at leading_of nth_word same_text_lem lowered amount_of number_from
    decimals_table table
    chosen_from choice_table nth_part index_of index_after
farm-set = refl

pub farm-factors : line_said (ascii "farm 7 2010 21 310") ≡ record { said = Record; entry = entry 1 (7 ∷ 2010 ∷ 21 ∷ 310 ∷ []) }
unfolding line_said kind_of row_of_line kind_table named_from values_from value_at leading_of nth_word same_text_lem lowered amount_of number_from
    decimals_table table
    chosen_from choice_table nth_part index_of index_after
farm-factors = refl

-- a word after the last field is counted and not read
pub word-too-many : line_said (ascii "enteric 31 300 6.5 hay") ≡ record { said = Record; entry = entry 3 (31 ∷ 30000 ∷ 650 ∷ 0 ∷ []) }
unfolding line_said kind_of row_of_line kind_table named_from values_from value_at leading_of nth_word same_text_lem lowered amount_of number_from
    decimals_table table
    chosen_from choice_table nth_part index_of index_after
word-too-many = refl

-- exactly four words make it version 2, numbers or not
pub rows : (row_of_line 1 (ascii "farm 7 2010 x 310") ≡ 11) × (row_of_line 1 (ascii "farm 7 2010 x") ≡ 1)
    × (row_of_line 1 (ascii "farm 7 2010 x 310 1") ≡ 1)
    × (row_of_line 11 (ascii "11 7 2010 x 310") ≡ 0)
unfolding row_of_line leading_of nth_word
rows = (refl, refl, refl, refl)

pub no_kind : line_said (ascii "cow 1") ≡ no_record (Wrong 0 1)
unfolding line_said kind_of row_of_line kind_table named_from values_from value_at leading_of nth_word same_text_lem lowered amount_of number_from
    decimals_table table
    chosen_from choice_table nth_part index_of index_after
no_kind = refl

pub no_number : line_said (ascii "soil 1x") ≡ no_record (Wrong 7 2)
unfolding line_said kind_of row_of_line kind_table named_from values_from value_at leading_of nth_word same_text_lem lowered amount_of number_from
    decimals_table table
    chosen_from choice_table nth_part index_of index_after
no_number = refl

pub no-choice : line_said (ascii "grazing Bavaria cows 600 50") ≡ no_record (Wrong 10 2)
unfolding line_said kind_of row_of_line kind_table named_from values_from value_at leading_of nth_word same_text_lem lowered amount_of number_from
    decimals_table table
    chosen_from choice_table nth_part index_of index_after
no-choice = refl

pub no_word : line_said (ascii " ") ≡ no_record Nothing
unfolding line_said kind_of row_of_line kind_table named_from values_from value_at leading_of nth_word same_text_lem lowered amount_of number_from
    decimals_table table
    chosen_from choice_table nth_part index_of index_after
no_word = refl

-- a close after five records, typed without its count
pub close-counted : completed_of (entry 8 []) 5 ≡ entry 8 (5 ∷ [])
unfolding completed_of
close-counted = refl
