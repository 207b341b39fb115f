-- Texts as they are told: the lines of the tables stand where their kinds and numbers say.
use mathlib.Core.Path.{◌≡◌, refl}
use mathlib.Core.List.{[], ◌∷◌}
use Rattle.std.specs.Prelude.{None, Some}
use Rattle.base.specs.Bytes.{index_of, index_after}
use Rattle.typed_words.specs.Words.{leading_of, nth_part, nth_word, same_text_lem, lowered}
use Rattle.printing.specs.Ascii.{ascii}
use Rattle.printing.specs.Decimal.{digits_by, decimal, without_last, last_digits, pointed}
use Rattle.names.specs.Names.{kind_table, kind_name, names_from, kind_names, field_table, field_name, expected_table, expected}
use Rattle.names.specs.Names.{choice_table, chosen_from, chosen, unit_table, unit_text, decimals_table, value_text, class_name, all_printed, shown}

kinds-named : (kind_name 3 ≡ ascii "enteric") × (kind_name 8 ≡ ascii "close")
    × (kind_name 9 ≡ ascii "tillage")
    × (kind_name 10 ≡ ascii "grazing")
    × (kind_name 0 ≡ ascii "record")
    × (kind_name 11 ≡ ascii "farm")
    × (kind_name 12 ≡ ascii "record")
    × (kind_name 300 ≡ ascii "record")
unfolding kind_table nth_part index_of index_after
kinds-named = (refl, refl, refl, refl, refl, refl, refl, refl)

all_named : kind_names ≡ ascii "farm, heading, enteric, cattle, pig, energy, soil, close, tillage, grazing"
unfolding kind_names names_from kind_table nth_part index_of index_after
all_named = refl

fields-named : (field_name 3 1 ≡ ascii " GE") × (field_name 4 8 ≡ ascii " pasture share")
    × (field_name 9 3 ≡ ascii " years")
    × (field_name 8 1 ≡ [])
    × (field_name 10 2 ≡ ascii " live weight")
    × (field_name 11 3 ≡ ascii " N2O factor")
    × (field_name 12 0 ≡ [])
unfolding field_table nth_part index_of index_after
fields-named = (refl, refl, refl, refl, refl, refl, refl)

ranges-named : (expected 3 2 ≡ ascii " 0 to 20.00 per cent") × (expected 2 1 ≡ ascii " 1 to 4 (milking, dry, heifer, pig)")
    × (expected 6 0 ≡ ascii " 1 to 8 (the documents give no names)")
unfolding expected_table choice_table nth_part index_of index_after
ranges-named = (refl, refl, refl)

classes-named : (class_name 1 ≡ ascii "milking") × (class_name 4 ≡ ascii "pig") × (class_name 5 ≡ [])
unfolding choice_table nth_part nth_word leading_of index_of index_after
classes-named = (refl, refl, refl)

-- choices by their words, in capitals or not
words-chosen : (chosen 10 0 (ascii "Ontario") ≡ Some 3) × (chosen 9 2 (ascii "no-to-intensive") ≡ Some 6)
    × (chosen 10 0 (ascii "Bavaria") ≡ None)
    × (chosen 3 0 (ascii "milking") ≡ None)
unfolding chosen_from lowered same_text_lem choice_table nth_part nth_word leading_of index_of index_after
words-chosen = (refl, refl, refl, refl)

values-shown : (value_text 3 1 34050 ≡ ascii "340.50") × (value_text 2 1 3 ≡ ascii "heifer") × (value_text 6 1 7 ≡ ascii "0.7")
    × (unit_text 3 1 ≡ ascii " MJ") × (unit_text 5 5 ≡ ascii " per cent") × (unit_text 5 6 ≡ [])
unfolding pointed without_last last_digits decimal digits_by decimals_table unit_table choice_table nth_part nth_word leading_of index_of index_after
values-shown = (refl, refl, refl, refl, refl, refl)

-- the word of bytes 51, 7 and 200
word-shown : shown (51 ∷ 7 ∷ 200 ∷ []) ≡ ascii "3??"
unfolding all_printed
word-shown = refl
