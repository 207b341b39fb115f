-- `line_bytes::read_numbers` meets its contract. The invariant: storing the figures that are left makes of the slice what is wanted.
-- Assumes nothing.
use mathlib.Core.Path.{refl, sym, ◌∙◌}
use native.Mathlib.Omega.{arith}
use lib.ListN.{length-set}
use Rattle.line_bytes.proofs.Laid.{one-read, all_read, numbers-read}
use Rattle.line_bytes.proofs.read_numbers.Goals as goal

pub loop-i-init : goal.loop-i-init
loop-i-init c = (simp length-set (omega arith), omega arith, refl, refl)

pub loop-i-preserved : goal.loop-i-preserved
loop-i-preserved c = let l = c.loop-i in
    let line = c.args.line.now in (
      simp length-set (omega arith),
      omega arith,
      length-set l.v l.i _ ∙ l.invariant.2,
      rw c.be64.ensures (one-read line l.v _ l.p l.i (omega (arith, l.invariant.2))) ∙ l.invariant.3,
    )

pub shape_of-v : goal.shape_of-v
shape_of-v c = c.loop-i.invariant.2 ∙ simp length-set

pub returns : goal.returns
returns c = let l = c.loop-i in
    let args = c.args in
    sym (all_read args.line.now l.v _ l.p l.i (omega (arith, l.invariant.2))) ∙ l.invariant.3
    ∙ numbers-read args.v.now args.line.now _ _ (omega arith) c.be8.ensures
    c.be16.ensures
