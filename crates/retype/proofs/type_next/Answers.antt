-- The record is typed where it is accepted. Assumes nothing.
use native.Mathlib.Omega.{arith}
use borrow.Author.Rules.{rules}
use Rattle.retype.proofs.Steps.{stops, record-typable, types}
use Rattle.retype.proofs.type_next.Goals as goal

pub next_record-t-requires : goal.next_record-t-requires
next_record-t-requires c = (c.requires.0, search rules)

pub returns-then-t-after : goal.returns-then-t-after
returns-then-t-after c = let t = c.next_record-t.ensures in
    record {
      retypes = stops c.args.a c.args.book.now _ t.result c.if-t-after.true c.args.out.now c.args.at (omega (arith, c.requires.1));
      written_bound = (omega arith, omega arith, t.inside.2);
    }

pub first_of-requires : goal.first_of-requires
first_of-requires c = c.next_record-t.ensures.inside.0

pub put_record-end-requires : goal.put_record-end-requires
put_record-end-requires c = record {
  typable = record-typable c.args.a c.args.book.now _ c.next_record-t.ensures.result c.if-t-after.false c.first_of.ensures;
  line_most_in_bounds = c.requires.1;
}

pub returns : goal.returns
returns c = let t = c.next_record-t.ensures in
    let e = c.put_record-end.ensures in
    record {
      retypes = types c.args.a c.args.book.now _ t.result c.if-t-after.false _ _ _ _ c.first_of.ensures e.put;
      written_bound = (e.upper_bound, t.inside.0, t.inside.2);
    }
