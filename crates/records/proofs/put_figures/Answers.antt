-- The numbers of the line, and the end of the row. Assumes nothing.
use Prim.Native.Nat.{◌+◌}
use mathlib.Core.Path.{◌≡◌}
use native.Mathlib.Omega.{arith}
use lib.ListN.{length}
use Rattle.printing.proofs.Puts.{and-then}
use Rattle.line_bytes.specs.Lines.{figure_count}
use Rattle.line_rows.proofs.Texts.{size-total}
use Rattle.records.proofs.Texts.{figures-total, figures-detail}
use borrow.Author.Rules.{rules}
use Rattle.records.proofs.put_figures.Goals as goal

pub total_numbers-numbers-requires : goal.total_numbers-numbers-requires
total_numbers-numbers-requires c = let c4 = c in omega (arith, size-total c4.args.line.now c.if-line.true, c4.requires.1)

pub returns-then-line : goal.returns-then-line
returns-then-line c =
    let total-count : length c.total_numbers-numbers.result ≡ 3 + figure_count = search rules in
    let c2 = c in
    let c7 = c2 in
    let c10 = c7 in
    let c11 = c10 in
    let c15 = c11 in
    let p = c7.put_columns-end.ensures in
    let e = c2.put_text.ensures in record { put = rw (figures-total c15.args.line.now c15.requires.1 c11.if-line.true c10.total_numbers-numbers.ensures) (and-then p.put e); upper_bound = omega (arith, p.result_bound, e.next, total-count) }

pub returns-else-line : goal.returns-else-line
returns-else-line c =
    let detail-count : length c.detail_numbers-numbers.result ≡ 2 + figure_count = search rules in
    let c2 = c in
    let c7 = c2 in
    let c10 = c7 in
    let c11 = c10 in
    let c15 = c11 in
    let p = c7.put_columns-end-else-line.ensures in
    let e = c2.put_text-else-line.ensures in record { put = rw (figures-detail c15.args.line.now c15.requires.1 c11.if-line.false c10.detail_numbers-numbers.ensures) (and-then p.put e); upper_bound = omega (arith, p.result_bound, e.next, detail-count) }
