-- Which values are usual: what people are asked to look at again, and no rule of the book's. The sources are document 000 (18.45 MJ a kg of dry
-- matter, Ym 6.5 per cent) and document 002 (tables A4-12, A4-14 and A4-19 to A4-24), taken wide.
use Rattle.std.specs.Prelude.{ℕ, ◌-◌, Bool, List, [], ◌++◌, length, ltb, eqb, Option, Some, None, unwrap_or}
use Rattle.base.specs.Choice.{pick}
use Rattle.base.specs.Bytes.{index_of}
use Rattle.typed_words.specs.Words.{nth_part, nth_word}
use Rattle.typed_words.specs.Amounts.{amount_of}
use Rattle.printing.specs.Ascii.{ascii}
use Rattle.names.specs.declared.usual.Usual.{Usual}
use Rattle.names.specs.Names.{cell_of, decimals_at, value_text}

-- from and to, as they are typed; with a bar between where they go by class or column, whose word stands before them
unfoldable pub usual_table : List ℕ
usual_table =
    ascii "\n\n\n"
    -- enteric: GE (000: 18.45 MJ a kg of dry matter), Ym (000: 6.5)
    ++ ascii ";milking 100 650|dry 60 400|heifer 15 350;3 9\n"
    -- cattle: feed (as GE), protein (002, A4-14: 12 and 16), milk (002, A4-12: 20 and 27), milk protein, gain
    ++ ascii ";milking 5 35|dry 3 22|heifer 0.5 20;6 26;milking 3 70|dry 0 0|heifer 0 0;2 5;0 1500;;;\n"
    -- pig: feed to the EF of the leached part (002, A4-19 to A4-24)
    ++ ascii ";0.3 8;0.04 0.2;0.8 1.2;0 0.5;10 26;0.5 1.2;0 0.01;0 0.7;0 0.02;0 0.3;0 0.015\n"
    -- grazing: live weight, by column
    ++ ascii "\n\n\n\n;;cows 350 900|heifers 150 650|calves 30 350;\n"

abbrev pub usual_ranges : ℕ → ℕ → List ℕ
usual_ranges row i = cell_of row i usual_table

-- the ranges go by class or column
abbrev pub goes_by : List ℕ → Bool
goes_by ranges = ltb (index_of 124 ranges) (length ranges)

-- the range of the class or column `who`, counted from 1
abbrev pub range_for : List ℕ → ℕ → List ℕ
range_for ranges who = pick (goes_by ranges) (nth_part 124 (who - 1) ranges) ranges

-- what the ranges of a field with d decimals say, in the book's unit
unfoldable pub usual_in : List ℕ → ℕ → ℕ → Option Usual
usual_in ranges d who =
    pick (eqb (length (range_for ranges who)) 0) None
    (Some
    (record {
      low = unwrap_or (amount_of d (nth_word (pick (goes_by ranges) 1 0) (range_for ranges who))) 0;
      high = unwrap_or (amount_of d (nth_word (pick (goes_by ranges) 2 1) (range_for ranges who))) 0;
    }))

abbrev pub usual_of : ℕ → ℕ → ℕ → Option Usual
usual_of row i who = usual_in (usual_ranges row i) (decimals_at row i) who

-- for whom it is usual, where it goes by that
abbrev pub for_text : List ℕ → ℕ → List ℕ
for_text ranges who = pick (goes_by ranges) (ascii " for " ++ nth_word 0 (range_for ranges who)) []

abbrev pub to_text : ℕ → ℕ → Usual → List ℕ
to_text row i u = pick (eqb u.low u.high) [] (ascii " to " ++ value_text row i u.high)

-- where nothing is usual the words say 0
abbrev pub none_usual : Usual
none_usual = record { low = 0; high = 0 }

-- what is usual, in words
unfoldable pub usual_text : ℕ → ℕ → ℕ → List ℕ
usual_text row i who =
    let u = unwrap_or (usual_of row i who) none_usual in
    ascii "usual" ++ (for_text (usual_ranges row i) who ++ (ascii " is " ++ (value_text row i u.low ++ to_text row i u)))
