-- The row fits where any does. Assumes nothing.
use native.Mathlib.Omega.{arith}
use Rattle.sheet.proofs.Exporting.{long-enough, front-there, front-most}
use Rattle.sheet.proofs.lines.row_size.Goals as goal

pub put_line-requires : goal.put_line-requires
put_line-requires c = let s = c.args.s.now in
    record { line_size_in_bounds = (long-enough s c.requires, front-there s c.requires); s_in_bounds = omega (arith, front-most s) }
