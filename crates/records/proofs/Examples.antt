-- Worked rows: a heading, a detail of the group under it, a detail of the farm, and the close with the subtotal before it. The bytes are those of a
-- book of document 01's records: farm (11 bytes), heading (9), enteric (12), energy (13), enteric (12), close (6).
-- Assumes nothing.
use mathlib.Core.Path.{◌≡◌, refl}
use mathlib.Core.List.{[], ◌∷◌, ◌++◌}
use Rattle.base.specs.Bytes.{index_of, index_after}
use Rattle.typed_words.specs.Words.{leading_of, nth_part, nth_word}
use Rattle.printing.specs.Ascii.{ascii}
use Rattle.printing.specs.Decimal.{digits_by, decimal, signed, without_last, last_digits, pointed}
use Rattle.names.specs.Names.{kind_table, choice_table, decimals_table}
use Rattle.codec.specs.Table.{table}
use Rattle.codec.specs.Codec.{val_at, values_at, be, bytes_of}
use Rattle.line_bytes.specs.Lines.{line_fields, total_fields, line_bytes_lem, total_bytes}
use Rattle.line_rows.specs.Rows.{line_numbers, columns_text}
use Rattle.account.specs.Sorts.{sort_of}
use Rattle.retype.specs.Typed.{values_typed}
use Rattle.records.specs.Table.{subtotal_size, figures_text, group_in, after_subtotal, entry_rows, text_of}

-- no line, and its own group
heading : text_of (entry_rows 1 11 (record { bytes = 0 ∷ 7 ∷ 1 ∷ 2 ∷ 0 ∷ 12 ∷ 1 ∷ 0 ∷ 40 ∷ []; lines = [] }))
    ≡ ascii "1,11,19,heading,12,heading 12 milking 40,,,,,,,\r\n"
unfolding subtotal_size figures_text group_in after_subtotal text_of line_numbers columns_text sort_of table val_at values_at values_typed kind_table choice_table
    decimals_table nth_part nth_word leading_of index_of index_after pointed without_last last_digits decimal digits_by signed
heading = refl

-- the group of its line
enteric : text_of (entry_rows 2 20
    (record { bytes = 0 ∷ 10 ∷ 1 ∷ 3 ∷ 0 ∷ 31 ∷ 0 ∷ 0 ∷ 117 ∷ 48 ∷ 2 ∷ 138 ∷ []; lines = line_bytes_lem 3 12 (434501 ∷ 0 ∷ 0 ∷ 0 ∷ 0 ∷ 0 ∷ []) }))
    ≡ ascii "2,20,31,enteric,12,enteric 31 300.00 6.50,434501,0,0,0,0,0,\r\n"
unfolding subtotal_size figures_text group_in after_subtotal text_of line_numbers columns_text sort_of table val_at values_at values_typed kind_table choice_table
    decimals_table nth_part nth_word leading_of index_of index_after pointed without_last last_digits decimal digits_by signed line_fields line_bytes_lem be bytes_of
enteric = refl

-- no group, though it stands under a heading
energy : text_of (entry_rows 3 32
    (record { bytes = 0 ∷ 11 ∷ 1 ∷ 6 ∷ 1 ∷ 0 ∷ 0 ∷ 0 ∷ 125 ∷ 0 ∷ 1 ∷ 17 ∷ 112 ∷ []; lines = line_bytes_lem 6 0 (0 ∷ 0 ∷ 875000 ∷ 0 ∷ 0 ∷ 0 ∷ []) }))
    ≡ ascii "3,32,44,energy,,energy 1 12.5 70000,0,0,875000,0,0,0,\r\n"
unfolding subtotal_size figures_text group_in after_subtotal text_of line_numbers columns_text sort_of table val_at values_at values_typed kind_table choice_table
    decimals_table nth_part nth_word leading_of index_of index_after pointed without_last last_digits decimal digits_by signed line_fields line_bytes_lem be bytes_of
energy = refl

-- the subtotal has a row of its own before it
close : text_of (entry_rows 5 57
    (record {
      bytes = 0 ∷ 4 ∷ 1 ∷ 8 ∷ 0 ∷ 5 ∷ [];
      lines =
          line_bytes_lem 16 12 (826954 ∷ 0 ∷ 0 ∷ 0 ∷ 0 ∷ 0 ∷ []) ++ total_bytes (826954 ∷ 0 ∷ 875000 ∷ 0 ∷ 0 ∷ 0 ∷ []) 18241034;
    }))
    ≡ ascii ",,,subtotal,12,,826954,0,0,0,0,0,\r\n5,57,62,close,,close 5,826954,0,875000,0,0,0,18241034\r\n"
unfolding subtotal_size figures_text group_in after_subtotal text_of line_numbers columns_text sort_of table val_at values_at values_typed kind_table choice_table
    decimals_table nth_part nth_word leading_of index_of index_after pointed without_last last_digits decimal digits_by signed line_fields line_bytes_lem be bytes_of
    total_fields total_bytes
close = refl
