-- The premises of any_order are met by the book with every kind, and what comes of it is computed once more from the definitions. And what the
-- law does not say of a refused book.
-- Assumes nothing.
use Prim.Native.Nat.{ℕ}
use mathlib.Core.Path.{◌≡◌, refl, ap}
use mathlib.Core.List.{List, [], ◌∷◌, ◌++◌}
use lib.ListN.{get_or}
use Rattle.codec.specs.Table.{table, size}
use Rattle.codec.specs.Codec.{val_at, be, values_at, bytes_of, first_bad, record_bytes}
use Rattle.line_bytes.specs.Lines.{line_fields, total_fields, line_bytes_lem, total_bytes}
use Rattle.grams.specs.Cattle as cattle
use Rattle.grams.specs.Farm.{co2e_of}
use Rattle.account.proofs.EachFigure.{computed}
use Rattle.account.specs.Sorts.{sort_of}
use Rattle.account.specs.Judge.{first, in_place_lem, accepted, judge}
use Rattle.book.specs.Front.{front}
use Rattle.book.specs.WholeRecords.{records_by, records_of}
use Rattle.book.specs.State.{no_record_yet}
use Rattle.book.specs.Run.{book_by, book, run}
use Rattle.promises.specs.Paper.{verdict}
use Rattle.promises.specs.EveryKind.{every_kind}
use Rattle.promises.proofs.Paper.{every-kind-closed}
use Rattle.orders.specs.InOrder.{to_front_lem, in_order_lem}
use Rattle.orders.specs.AnyOrder.{Accepted, Details, book_of, InAnyOrder}
use Rattle.orders.specs.Examples.{cattle_before, cattle_details, cattle_behind, grazing_first, cattle_moved}
use Rattle.orders.specs.Examples.{pig_before, pig_details, pig_behind, tillage_first, moved_lines_lem, days_first, shares_first}
use Rattle.orders.proofs.AnyOrder.{any_order}

-- ---- every kind of detail

every-kind-accepted : Accepted every_kind
unfolding table size val_at values_at first_bad cattle.below_zero first in_place_lem accepted sort_of judge front book_by book run
every-kind-accepted = record { closed = ap (λ (l : List ℕ). get_or l 0 0) every-kind-closed; all = refl }

cattle-premises : (records_of every_kind ≡ cattle_before ++ (cattle_details ++ cattle_behind)) × Details cattle_details
unfolding val_at sort_of front records_by records_of
cattle-premises = (refl, (refl, (refl, (refl, (refl, tt)))))

-- Under its cattle heading the book with every kind may have grazing and cattle nitrogen before the others:
pub cattle-moved : InAnyOrder every_kind cattle_before cattle_details cattle_behind grazing_first
cattle-moved = any_order every_kind cattle_before cattle_details cattle_behind grazing_first every-kind-accepted cattle-premises.0 cattle-premises.1

-- these are the bytes.
pub cattle-bytes : book_of cattle_before (in_order_lem grazing_first cattle_details) cattle_behind ≡ cattle_moved
unfolding val_at front records_by records_of to_front_lem in_order_lem
cattle-bytes = refl

moved-accepted : Accepted cattle_moved
moved-accepted = rw cattle-bytes at cattle-moved.accepted

pig-premises : (records_of cattle_moved ≡ pig_before ++ (pig_details ++ pig_behind)) × Details pig_details
unfolding val_at sort_of front records_by records_of
pig-premises = (refl, (refl, (refl, (refl, tt))))

-- Of that book the tillage record may stand before the pig record.
pub pig-moved : InAnyOrder cattle_moved pig_before pig_details pig_behind tillage_first
pig-moved = any_order cattle_moved pig_before pig_details pig_behind tillage_first moved-accepted pig-premises.0 pig-premises.1

-- The lines of the book with both runs so, computed: those of the book with every kind, in the new order, with its subtotals and its total.
pub moved_lines : (run no_record_yet (book_of pig_before (in_order_lem tillage_first pig_details) pig_behind)).lines ≡ moved_lines_lem
unfolding table size val_at be values_at first_bad bytes_of line_bytes_lem total_bytes line_fields total_fields cattle.below_zero computed co2e_of first in_place_lem accepted sort_of judge front book_by book run records_by records_of to_front_lem in_order_lem
moved_lines = refl

-- ---- two faults

-- The first fault may change: with the enteric record first it is 7 in field 1 of record 2, with the cattle shares first it is 10, of record 2 again.
pub first-fault-changes : (verdict days_first ≡ 3 ∷ 2 ∷ 7 ∷ 2 ∷ 1 ∷ []) × (verdict shares_first ≡ 3 ∷ 2 ∷ 10 ∷ 2 ∷ 0 ∷ [])
unfolding table size val_at be values_at bytes_of first_bad record_bytes cattle.below_zero first in_place_lem accepted sort_of judge front book_by book run
first-fault-changes = (refl, refl)
