-- Any header fits where a row does. Assumes nothing.
use native.Mathlib.Omega.{arith}
use lib.ListN.{length}
use Rattle.printing.proofs.Puts.{none}
use Rattle.lister.proofs.Lines.{head-room, head-some, head-none}
use Rattle.lister.proofs.begin.Goals as goal

pub put_header-requires : goal.put_header-requires
put_header-requires c = let a = c.args in
    omega (arith, head-room a.form (length a.out.now) c.if-out-ge-ROW_MOST.true)

pub returns-then-out-ge-ROW_MOST : goal.returns-then-out-ge-ROW_MOST
returns-then-out-ge-ROW_MOST c = let a = c.args in
    rw (head-some a.form (length a.out.now) c.if-out-ge-ROW_MOST.true) c.put_header.ensures

pub returns : goal.returns
returns c = let a = c.args in
    rw (head-none a.form (length a.out.now) c.if-out-ge-ROW_MOST.false) (none a.out.now 0 (omega arith))
