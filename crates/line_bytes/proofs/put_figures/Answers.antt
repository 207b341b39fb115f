-- `line_bytes::put_figures` meets its contract. The invariant: storing the figures that are left makes of the slice what is wanted.
-- Assumes nothing.
use mathlib.Core.Path.{refl, sym, ◌∙◌}
use native.Mathlib.Omega.{arith}
use native.Mathlib.Nat.{sub-zero}
use lib.ListN.{length}
use Rattle.codec.proofs.Stores.{one-stored, all-stored}
use Rattle.line_bytes.specs.Lines.{figure}
use Rattle.line_bytes.proofs.put_figures.Goals as goal

pub loop-figure-init : goal.loop-figure-init
loop-figure-init c = (omega arith, refl, rw sub-zero)

pub loop-figure-preserved : goal.loop-figure-preserved
loop-figure-preserved c = let l = c.loop-figure in
    let f = c.args.f.now in (
      omega arith,
      omega arith,
      rw c.put8.ensures (one-stored figure f l.out (length f) l.p l.figure-index (omega arith) ∙ l.invariant.2),
    )

pub shape_of-out : goal.shape_of-out
shape_of-out c = c.loop-figure.invariant.1

pub returns : goal.returns
returns c = let l = c.loop-figure in
    let f = c.args.f.now in
    sym (all-stored figure f l.out (length f) l.p l.figure-index (omega arith)) ∙ l.invariant.2
