-- `line_bytes::put_total` meets its contract.
-- Assumes nothing.
use mathlib.Core.Path.{◌≡◌}
use native.Mathlib.Omega.{arith}
use lib.ListN.{length}
use Rattle.line_bytes.specs.Lines.{figure_count}
use Rattle.line_bytes.proofs.Laid.{total-stored}
use Rattle.line_bytes.proofs.put_total.Goals as goal

pub returns : goal.returns
returns c = let first = c in
    let args = first.args in
    let count : length args.f ≡ figure_count = omega arith in
    rw (
      total-stored args.f args.co2e args.out.now args.at count,
      c.put8.ensures,
      c.put_figures.ensures,
      c.put2.ensures,
      first.put_start.ensures,
      count,
    )
