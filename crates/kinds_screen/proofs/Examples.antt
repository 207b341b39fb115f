-- Theorem: the screen shows lines that go in. Each example, read as a typed line is read, says a record of its row's kind, with a value for each
-- field and each value in its range; the close has no value, since its count is filled in. And the whole screen fits the writer's buffer.
-- Assumes nothing.
use Prim.Native.Nat.{ℕ, ◌≤◌}
use mathlib.Core.Path.{◌≡◌, refl}
use lib.ListN.{length, take}
use lib.Dec.{T, eqb, leb, leb→le}
use Rattle.base.specs.Choice.{pick}
use Rattle.codec.specs.Table.{table, fields, row_kind}
use Rattle.codec.specs.Codec.{first_bad}
use Rattle.base.specs.Bytes.{index_of, index_after}
use Rattle.typed_words.specs.Words.{leading_of, nth_word, same_text_lem, lowered, nth_part}
use Rattle.typed_words.specs.Amounts.{number_from, amount_of}
use Rattle.names.specs.Names.{kind_table, field_table, expected_table, choice_table, chosen_from, decimals_table}
use Rattle.writer.specs.declared.typed_line.Said.TheVariants.{Record}
use Rattle.writer.specs.Line.{named_from, kind_of, row_of_line, value_at, values_from, values_in, line_said}
use Rattle.kinds_screen.specs.Screen.{example_table, example_of, fields_from, rows_from, screen_text}

-- how many values the example of a row has
abbrev values_shown : ℕ → ℕ
values_shown row = pick (eqb row 8) 0 (length (fields row))

pub record Right (row : ℕ) : Type 0 where
  pub says : (line_said (example_of row)).said ≡ Record
  pub kind : (line_said (example_of row)).entry.kind ≡ row_kind row
  pub by_row : row_of_line (row_kind row) (example_of row) ≡ row
  pub count : (line_said (example_of row)).entry.count ≡ values_shown row
  pub within : first_bad (take (values_shown row) (fields row)) (values_in (line_said (example_of row)).entry) 0 ≡ 0

pub examples-right : Right 1 × Right 2 × Right 3 × Right 4 × Right 5 × Right 6 × Right 7 × Right 8 × Right 9 × Right 10 × Right 11
unfolding example_table line_said kind_of row_of_line kind_table named_from values_from value_at leading_of nth_word same_text_lem lowered amount_of
    number_from
    decimals_table table first_bad chosen_from choice_table nth_part index_of index_after
examples-right = (
  record { says = refl; kind = refl; by_row = refl; count = refl; within = refl },
  record { says = refl; kind = refl; by_row = refl; count = refl; within = refl },
  record { says = refl; kind = refl; by_row = refl; count = refl; within = refl },
  record { says = refl; kind = refl; by_row = refl; count = refl; within = refl },
  record { says = refl; kind = refl; by_row = refl; count = refl; within = refl },
  record { says = refl; kind = refl; by_row = refl; count = refl; within = refl },
  record { says = refl; kind = refl; by_row = refl; count = refl; within = refl },
  record { says = refl; kind = refl; by_row = refl; count = refl; within = refl },
  record { says = refl; kind = refl; by_row = refl; count = refl; within = refl },
  record { says = refl; kind = refl; by_row = refl; count = refl; within = refl },
  record { says = refl; kind = refl; by_row = refl; count = refl; within = refl },
)

screen-short : T (leb (length screen_text) 4096)
unfolding screen_text rows_from fields_from example_table field_table expected_table choice_table table nth_part index_of index_after
screen-short = tt

pub screen-fits : length screen_text ≤ 4096
screen-fits = leb→le (length screen_text) 4096 screen-short
