-- `line_bytes::put_line` meets its contract.
-- Assumes nothing.
use mathlib.Core.Path.{◌≡◌}
use native.Mathlib.Omega.{arith}
use lib.ListN.{length}
use Rattle.line_bytes.specs.Lines.{figure_count}
use Rattle.line_bytes.proofs.Laid.{line-stored}
use Rattle.line_bytes.proofs.put_line.Goals as goal

pub returns : goal.returns
returns c = let count : length c.args.f
    ≡ figure_count = omega arith in
    rw (
      line-stored,
      c.put_figures.ensures,
      c.put2.ensures,
      c.put_start.ensures,
      count,
    )
