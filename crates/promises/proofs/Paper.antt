-- The paper's figures: P1 to P12, and the sample book, each computed from the definitions. And every premise of the promises is met by some
-- state and some book: by the one before any record, by the sample book, and by one with a wrong length.
-- Assumes nothing.
use Prim.Native.Nat.{ℕ}
use mathlib.Core.Path.{◌≡◌, refl, ap}
use mathlib.Core.List.{List, [], ◌∷◌, ◌++◌}
use mathlib.Core.Bool.{false}
use mathlib.Core.Logic.{inl}
use lib.Dec.{T}
use lib.ListN.{get_or, take, drop}
use Rattle.codec.specs.Table.{table, size}
use Rattle.codec.specs.Codec.{val_at, be, values_at, bytes_of, first_bad, record_bytes}
use Rattle.line_bytes.specs.Lines.{line_fields, total_fields, line_bytes_lem, total_bytes}
use Rattle.grams.specs.Round.{round_div}
use Rattle.grams.specs.Cattle as cattle
use Rattle.grams.specs.Pig as pig
use Rattle.grams.specs.Farm.{energy_of, soil_of, co2e_of}
use Rattle.grams.specs.Cases.{every}
use Rattle.account.specs.Figures.{figures_of}
use Rattle.account.specs.Range.{account_in_range}
use Rattle.account.specs.Sorts.{sort_of}
use Rattle.account.specs.Account.{no_record, refused}
use Rattle.account.specs.Judge.{record_row, first, in_place_lem, accepted, judge}
use Rattle.book.specs.Front.{front}
use Rattle.book.specs.WholeRecords.{records_by, records_of}
use Rattle.book.specs.State.{no_record_yet, holding, in_range, InRange}
use Rattle.book.specs.Run.{book_by, book, run}
use Rattle.book.specs.Call.{longest, answer_of, call}
use Rattle.book.specs.Way.{way, Ended}
use Rattle.promises.specs.Headings.{last_group, accepted_records}
use Rattle.promises.specs.Paper.{verdict_of, paper, sample, sample_lines, five_parts, credit, credit_lines}
use Rattle.promises.specs.EveryKind.{every_kind, every_kind_lines, every_kind_verdict}
use Rattle.account.proofs.EachFigure.{computed}
use Rattle.book.proofs.RunLeaves.{run-leaves}
use Rattle.promises.proofs.StaysInRange.{new-in-range}

-- P1 to P12: each row of the table gives what document 01 prints.
pub figures-to-meet : T (every paper)
unfolding table size val_at be values_at bytes_of first_bad record_bytes round_div cattle.enteric_of cattle.below_zero cattle.manure_of pig.manure_of soil_of figures_of first in_place_lem accepted sort_of judge front book_by book run
figures-to-meet = tt

-- The sample book is accepted and closed, gives document 01's lines and total, and leaves nothing.
pub sample-lines : (run no_record_yet sample).lines ≡ sample_lines
unfolding table size val_at values_at first_bad round_div cattle.enteric_of energy_of co2e_of figures_of first in_place_lem accepted sort_of judge front book_by book run
sample-lines = refl

pub sample-closed : verdict_of (run no_record_yet sample).state.account ≡ 2 ∷ 6 ∷ 0 ∷ 0 ∷ 0 ∷ []
unfolding table size val_at values_at first_bad round_div cattle.enteric_of energy_of co2e_of figures_of first in_place_lem accepted sort_of judge front book_by book run
sample-closed = refl

pub sample-left : (run no_record_yet sample).left ≡ []
unfolding table size val_at values_at first_bad first in_place_lem accepted sort_of judge front book_by book run
sample-left = refl

-- The book with every kind is accepted and closed, and gives, byte for byte, the lines that the second program writes.
pub every-kind-lines : (run no_record_yet every_kind).lines ≡ every_kind_lines
unfolding table size val_at be values_at first_bad bytes_of line_bytes_lem total_bytes line_fields total_fields cattle.below_zero computed co2e_of first in_place_lem accepted sort_of judge front book_by book run
every-kind-lines = refl

pub every-kind-closed : verdict_of (run no_record_yet every_kind).state.account ≡ every_kind_verdict
unfolding table size val_at values_at first_bad round_div cattle.below_zero first in_place_lem accepted sort_of judge front book_by book run
every-kind-closed = refl

-- A book may close below zero: the one with a change of tillage alone does, to the byte.
pub credit-lines : (run no_record_yet credit).lines ≡ credit_lines
unfolding table size val_at be values_at first_bad bytes_of line_bytes_lem total_bytes line_fields total_fields computed co2e_of first in_place_lem accepted sort_of judge front book_by book run
credit-lines = refl

-- ---- the premises are met

-- A state in range that is open: the one before any record.
pub open-state : InRange no_record_yet
open-state = new-in-range

-- One that is closed, and one that is refused.
pub closed-state : InRange (run no_record_yet sample).state × ((run no_record_yet sample).state.account.stage ≡ 2)
closed-state = ((run-leaves no_record_yet sample new-in-range).range, ap (λ (l : List ℕ). get_or l 0 0) sample-closed)

pub refused-state : InRange (run no_record_yet (0 ∷ 3 ∷ [])).state × ((run no_record_yet (0 ∷ 3 ∷ [])).state.account.stage ≡ 3)
unfolding val_at front book_by book run
refused-state = ((run-leaves no_record_yet (0 ∷ 3 ∷ []) new-in-range).range, refl)

-- One outside the ranges: a refusal stored under the number 13.
pub outside-state : in_range (holding (refused no_record 13 0) []) ≡ false
unfolding in_range account_in_range
outside-state = refl

-- A way that is at its end: the sample book in five parts, with buffers that are too small at first.
pub ended-way : Ended (way no_record_yet sample five_parts)
unfolding table size val_at be values_at first_bad bytes_of line_bytes_lem total_bytes line_fields total_fields round_div cattle.enteric_of energy_of co2e_of figures_of account_in_range first in_place_lem accepted sort_of judge front book_by book run in_range longest answer_of call way
ended-way = inl refl

-- A ration after a heading: the third record of the sample, under group 12.
pub ration-under-heading : (accepted_records no_record_yet sample ≡ take 2 (records_of sample)
    ++ (get_or (records_of sample) 2 [] ∷ drop 3 (records_of sample)))
    × ((record_row (get_or (records_of sample) 2 []) ≡ 3) × (last_group 0 (take 2 (records_of sample)) ≡ 12))
unfolding table size val_at values_at first_bad first in_place_lem accepted sort_of judge front book_by book run records_by records_of last_group
ration-under-heading = (refl, (refl, refl))
