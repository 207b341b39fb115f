-- The walk goes through the book. Assumes nothing.
use Rattle.std.proofs.Common.{◌≡◌, drop}
use Rattle.walk.specs.Walk.{next_of}
use Rattle.table.proofs.Ends.{going-none, going-all, going_end, going_on}
use Rattle.table.proofs.end_of.Goals as goal

pub loop-at-init : goal.loop-at-init
loop-at-init c = rw c.new-a.ensures (going-none _)

pub returns-then-t-eq0 : goal.returns-then-t-eq0
returns-then-t-eq0 c =
    let next-is : let l = c.loop-at in
    c.next_alone-t.result ≡ next_of l.a (drop l.at c.args.book.now) = rw c.rest_of.ensures at c.next_alone-t.ensures.result in
    let f = c in record { is = going_end f.loop-at.invariant (next-is) c.if-t-eq0.true; range = f.next_alone-t.ensures.inside.1 }

pub loop-at-preserved : goal.loop-at-preserved
loop-at-preserved c =
    let next-is : let l = c.loop-at in
    c.next_alone-t.result ≡ next_of l.a (drop l.at c.args.book.now) = rw c.rest_of.ensures at c.next_alone-t.ensures.result in
    let f = c in
    going_on f.loop-at.invariant (next-is) c.if-t-eq0.false f.next_alone-t.ensures.inside.1

pub returns : goal.returns
returns c = record { is = going-all c.loop-at.invariant c.loop-at-test.false; range = c.loop-at.invariant.range }
