-- The commas, then the end of the row. Assumes nothing.
use native.Mathlib.Omega.{arith}
use Rattle.printing.proofs.Puts.{and-then}
use Rattle.records.proofs.put_none.Goals as goal

pub returns : goal.returns
returns c = let end = c in
    let commas = end in
    let p = and-then commas.put_text-end.ensures end.put_text.ensures in record { put = p; upper_bound = omega (arith, p.next) }
