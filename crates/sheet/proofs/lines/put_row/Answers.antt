-- The row, and as much of it as it has. Assumes nothing.
use native.Mathlib.Omega.{arith}
use Rattle.sheet.proofs.Exporting.{long-enough, front-there, front-most}
use Rattle.sheet.proofs.lines.put_row.Goals as goal

pub put_line-n-requires : goal.put_line-n-requires
put_line-n-requires c = let s = c.args.s.now in
    record { line_size_in_bounds = (long-enough s c.requires.s_value, front-there s c.requires.s_value); s_in_bounds = omega (arith, front-most s) }
