use Prim.Native.Nat.{ℕ, ◌+◌, ◌≤◌, ◌<◌}
use mathlib.Core.Path.{◌≡◌, sym, ap, ◌∙◌}
use native.Mathlib.Omega.{arith}
use lib.ListN.{length, drop, length-drop, drop_of_length-le}
use lib.Seq.{drop-drop}
use Rattle.line_rows.specs.declared.Form.TheVariants.{Sheet}
use Rattle.line_rows.specs.Rows.{line_row}
use Rattle.sheet.specs.Sheets.{line_item}
use Rattle.sheet.proofs.Exporting.{long-enough, Is, line-is, line-ahead, rows_start}
use Rattle.sheet.proofs.Writing.{next-item, run_room, run_on, run-done}
use Rattle.sheet.proofs.write_lines.Goals as goal

pub loop-i-init : goal.loop-i-init
loop-i-init c = let a = c.args in
    (omega arith, rows_start a.lines.now a.text.now a.from c.requires.lines_value c.requires.lines_in_bounds)

pub put_row-at-requires : goal.put_row-at-requires
put_row-at-requires c =
    let some : 0 < length (drop c.loop-i.i c.args.lines.now) = omega (arith, length-drop c.loop-i.i c.args.lines.now) in
    let there : Is c.rest_of-rest.result.now (next-item c.loop-i.invariant.1 (some)).piece
    (next-item c.loop-i.invariant.1 (some)).rest = let o = next-item c.loop-i.invariant.1 (some) in
    line-is c.rest_of-rest.result.now o.piece o.rest (ap line_item c.rest_of-rest.ensures ∙ o.first) in
    let e = there in
    record { s_value = e.line; s_in_bounds = run_room c.loop-i.invariant.1 (some) (line_row Sheet c.rest_of-rest.result.now) e.row }

pub loop-i-preserved : goal.loop-i-preserved
loop-i-preserved c =
    let some : 0 < length (drop c.loop-i.i c.args.lines.now) = omega (arith, length-drop c.loop-i.i c.args.lines.now) in
    let there : Is c.rest_of-rest.result.now (next-item c.loop-i.invariant.1 (some)).piece
    (next-item c.loop-i.invariant.1 (some)).rest = let o = next-item c.loop-i.invariant.1 (some) in
    line-is c.rest_of-rest.result.now o.piece o.rest (ap line_item c.rest_of-rest.ensures ∙ o.first) in
    let ahead : c.loop-i.i + c.front_size-i.result ≤ length
    c.args.lines.now = let l = c.loop-i in
    line-ahead c.args.lines.now l.i c.rest_of-rest.result.now c.front_size-i.result
    c.rest_of-rest.ensures (there).line c.front_size-i.ensures l.invariant.0 in
    let l = c.loop-i in
    let lines = c.args.lines.now in
    let e = there in
    let rest : drop (l.i + c.front_size-i.result) lines ≡ (next-item l.invariant.1 (some)).rest =
    sym (drop-drop c.front_size-i.result l.i lines) ∙ ap (drop c.front_size-i.result) (sym c.rest_of-rest.ensures)
    ∙ ap (λ (n : ℕ). drop n c.rest_of-rest.result.now) c.front_size-i.ensures ∙ e.rest in
    (ahead, run_on l.invariant.1 (some) e.row rest c.put_row-at.ensures)

pub front_size-i-requires : goal.front_size-i-requires
front_size-i-requires c =
    let some : 0 < length (drop c.loop-i.i c.args.lines.now) = omega (arith, length-drop c.loop-i.i c.args.lines.now) in
    let there : Is c.rest_of-rest.result.now (next-item c.loop-i.invariant.1 (some)).piece
    (next-item c.loop-i.invariant.1 (some)).rest = let o = next-item c.loop-i.invariant.1 (some) in
    line-is c.rest_of-rest.result.now o.piece o.rest (ap line_item c.rest_of-rest.ensures ∙ o.first) in
    long-enough c.rest_of-rest.result.now (there).line

pub returns : goal.returns
returns c = run-done c.loop-i.invariant.1 (drop_of_length-le c.args.lines.now c.loop-i-test.false)
