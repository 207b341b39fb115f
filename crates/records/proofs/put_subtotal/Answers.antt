-- Cell after cell. Assumes nothing.
use native.Mathlib.Omega.{arith}
use Rattle.printing.proofs.Puts.{and-then}
use Rattle.records.proofs.put_subtotal.Goals as goal

pub returns : goal.returns
returns c = let c2 = c in
    let c6 = c2 in
    let c10 = c6 in
    let c14 = c10 in
    let n = c14.put_text-name.ensures in
    let g = c10.put_line_group-group.ensures in
    let b = c6.put_byte-typed.ensures in
    let f = c2.put_line.ensures in record { put = and-then n (and-then g.put (and-then b f.put)); upper_bound = omega (arith, n.next, g.result_bound, b.next, f.upper_bound) }
