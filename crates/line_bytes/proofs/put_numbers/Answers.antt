-- `line_bytes::put_numbers` meets its contract.
-- Assumes nothing.
use native.Mathlib.Omega.{arith}
use Rattle.line_bytes.proofs.AnyLine.{numbers-stored}
use Rattle.line_bytes.proofs.put_numbers.Goals as goal

pub returns : goal.returns
returns c = let start = c in
    let size = start.size_of_kind-size in
    let a = start.args in
    rw (
      numbers-stored a.kind size.result a.v.now a.out.now a.at size.ensures.value (omega arith),
      c.put_figures.ensures,
      c.put2.ensures,
      start.put_start.ensures,
    )
