-- An account outside its ranges has no more records, and there are none after the book. Assumes nothing.
use mathlib.Core.Path.{sym, ap, refl, ◌∙◌}
use mathlib.Core.Bool.{Bool, ◌&&◌}
use native.Mathlib.Omega.{arith}
use borrow.Author.Tests.{leb-true}
use lib.ListN.{length}
use lib.Dec.{leb}
use Rattle.base.proofs.Tests.{and_l, and_r}
use Rattle.account.proofs.Clauses.{in-range-parts}
use Rattle.printing.proofs.Puts.{none}
use Rattle.records.proofs.rows.Goals as goal

pub put_rows-requires : goal.put_rows-requires
put_rows-requires c = let c1 = c in
    let c2 = c1 in
    let c5 = c2 in
    let t = c1.if-in_range-at.true in
    let inside = and_l c2.in_range.result (leb c5.args.at (length c5.args.book.now)) t in
    (in-range-parts _ (sym c2.in_range.ensures ∙ inside), leb-true _ _ (and_r c2.in_range.result _ t))

pub returns-then-in_range-at : goal.returns-then-in_range-at
returns-then-in_range-at c = let c2 = c in
    let c4 = c2 in
    let c5 = c4 in
    let c8 = c5 in
    let t = ap (λ (b : Bool). b && leb c8.args.at (length c8.args.book.now)) (sym c5.in_range.ensures) ∙ c4.if-in_range-at.true in
    rw t c2.put_rows.ensures

pub returns : goal.returns
returns c = let c1 = c in
    let c4 = c1 in
    let t = ap (λ (b : Bool). b && leb c4.args.at (length c4.args.book.now)) (sym c1.in_range.ensures) ∙ c.if-in_range-at.false in record { retypes = rw t (record { account = refl; taken = refl; more = refl; put = none _ 0 (omega arith) }); taken_in_bounds = omega arith }
