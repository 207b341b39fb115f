-- What is left to type makes the whole. Assumes nothing.
use mathlib.Core.Path.{ap, ◌∙◌}
use native.Mathlib.Omega.{arith}
use borrow.Author.Tests.{not-true, not-false}
use lib.ListN.{length, length-drop}
use Rattle.printing.proofs.Puts.{put-length}
use Rattle.retype.proofs.Steps.{going-none, going-stop, going_on, going_end}
use Rattle.retype.proofs.type_records.Goals as goal

pub loop-init : goal.loop-init
loop-init c = going-none _ _ _ _ c.requires (omega arith)

pub rest_of-requires : goal.rest_of-requires
rest_of-requires c = c.loop.invariant.inside

pub type_next-t-requires : goal.type_next-t-requires
type_next-t-requires c = let i = c.loop.invariant in (i.range, omega (arith, i.room))

pub overflow_add-at : goal.overflow_add-at
overflow_add-at c = omega (
  arith,
  c.type_next-t.ensures.written_bound.1,
  ap length c.rest_of.ensures,
  length-drop c.loop.at c.args.book.now,
  c.loop.invariant.inside,
)

pub shape_of-out-then-not-t : goal.shape_of-out-then-not-t
shape_of-out-then-not-t c = put-length c.type_next-t.ensures.retypes.put ∙ c.loop.invariant.same

pub returns-then-not-t : goal.returns-then-not-t
returns-then-not-t c = let t = c.type_next-t.ensures in
    let p = c.rest_of.ensures in
    record {
      retypes = going-stop c.loop.invariant (omega arith) p t.retypes (not-true _ c.if-not-t.true);
      taken_in_bounds = omega (arith, t.written_bound.1, ap length p, length-drop c.loop.at c.args.book.now, c.loop.invariant.inside);
    }

pub loop-preserved : goal.loop-preserved
loop-preserved c = let t = c.type_next-t.ensures in
    going_on c.loop.invariant (omega arith) c.rest_of.ensures t.retypes (omega arith) (not-false _ c.if-not-t.false)
    t.written_bound.0 t.written_bound.1 t.written_bound.2

pub returns : goal.returns
returns c = record { retypes = going_end c.loop.invariant (omega arith); taken_in_bounds = c.loop.invariant.inside }
