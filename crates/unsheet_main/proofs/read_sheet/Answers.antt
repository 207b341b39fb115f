-- What was written lies inside the buffer.
use Rattle.std.proofs.Common.{◌≤◌, length, sym, arith}
use lib.Seq.{length-take-le}
use Rattle.sheet.proofs.Plans.{written-within}
use Rattle.unsheet_main.proofs.read_sheet.Goals as goal

pub slice_bounds-lines-end : goal.slice_bounds-lines-end
slice_bounds-lines-end g c =
    let w : c.in-Ok.n ≤ length c.lines_buffer-lines.result = written-within _ _ _ (sym c.in-Ok.ensures.value) in
    omega arith

pub slice_bounds-give-end : goal.slice_bounds-give-end
slice_bounds-give-end g c =
    let w : c.in-Ok.n ≤ length c.lines_buffer-lines.result = written-within _ _ _ (sym c.in-Ok.ensures.value) in
    sym (length-take-le _ _ (omega arith))
