-- What is left to put makes the whole. Assumes nothing.
use Prim.Native.Nat.{◌≤◌}
use mathlib.Core.Path.{◌∙◌}
use native.Mathlib.Omega.{arith}
use lib.ListN.{length}
use borrow.Author.Tests.{not-true, not-false}
use Rattle.printing.proofs.Puts.{put-length}
use Rattle.records.proofs.Steps.{going-none, going-stop, going_on, going_end}
use Rattle.records.proofs.put_rows.Goals as goal

pub loop-init : goal.loop-init
loop-init c = going-none _ _ _ _ _ c.requires.0 c.requires.1 (omega arith)

pub overflow_add-at : goal.overflow_add-at
overflow_add-at c = omega (arith, c.loop.invariant.inside)

pub put_next-t-requires : goal.put_next-t-requires
put_next-t-requires c = let i = c.loop.invariant in (i.range, i.inside, omega (arith, i.room))

pub overflow_add-taken : goal.overflow_add-taken
overflow_add-taken c =
    let book-fits : length c.args.book.now ≤ 18446744073709551615 = omega arith in
    omega (arith, c.put_next-t.ensures.written_bound.1, c.loop.invariant.inside, book-fits)

pub shape_of-out-then-not-t : goal.shape_of-out-then-not-t
shape_of-out-then-not-t c = put-length c.put_next-t.ensures.retypes.put ∙ c.loop.invariant.same

pub returns-then-not-t : goal.returns-then-not-t
returns-then-not-t c =
    let t = c.put_next-t.ensures in
    record {
      retypes = going-stop c.loop.invariant (omega arith) t.retypes (not-true _ c.if-not-t.true);
      taken_in_bounds = omega (arith, t.written_bound.1);
    }

pub loop-preserved : goal.loop-preserved
loop-preserved c =
    let t = c.put_next-t.ensures in
    going_on c.loop.invariant (omega arith) t.retypes (omega arith) (not-false _ c.if-not-t.false)
    t.written_bound.0 t.written_bound.1 t.written_bound.2

pub returns : goal.returns
returns c = let i = c.loop.invariant in record { retypes = going_end i (omega arith); taken_in_bounds = omega (arith, i.inside) }
