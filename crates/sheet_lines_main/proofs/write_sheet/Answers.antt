-- What was written lies inside the buffer.
use Rattle.std.proofs.Common.{◌≤◌, length, sym, arith}
use lib.Seq.{length-take-le}
use Rattle.sheet.proofs.Plans.{written-within}
use Rattle.sheet_lines_main.proofs.write_sheet.Goals as goal

pub slice_bounds-sheet-end : goal.slice_bounds-sheet-end
slice_bounds-sheet-end g c =
    let w : c.in-Ok.n ≤ length c.sheet_buffer-sheet.result = written-within _ _ _ (sym c.in-Ok.ensures.value) in
    omega arith

pub slice_bounds-give-end : goal.slice_bounds-give-end
slice_bounds-give-end g c =
    let w : c.in-Ok.n ≤ length c.sheet_buffer-sheet.result = written-within _ _ _ (sym c.in-Ok.ensures.value) in
    sym (length-take-le _ _ (omega arith))
