-- The walk goes through the book. Assumes nothing.
use Rattle.std.proofs.Common.{◌≡◌, drop, arith}
use Rattle.walk.specs.Walk.{next_of}
use Rattle.page.proofs.Gathers.{gathering-none, gathering-far, gathering-end, standing, gathering-next, rise-next}
use Rattle.page.proofs.sums.gather.Goals as goal

pub loop-at-init : goal.loop-at-init
loop-at-init c = rw c.new-a.ensures (gathering-none _ _)

pub returns-then-t-after : goal.returns-then-t-after
returns-then-t-after c =
    let left_is : c.rest_of-rest.result.now ≡ drop c.loop-at.at c.args.book.now = c.rest_of-rest.ensures in
    let next-is : c.next_alone-t.result ≡ next_of c.loop-at.a (drop c.loop-at.at c.args.book.now) = rw left_is at c.next_alone-t.ensures.result in
    let l = c.loop-at in
    let g = gathering-end l.invariant _ next-is c.if-t-after.true in
    record { account_value = (g.account, g.sum); account_in_range = (l.invariant.range, l.invariant.sum) }

pub kind_of-found-requires : goal.kind_of-found-requires
kind_of-found-requires c =
    let left_is : c.rest_of-rest.result.now ≡ drop c.loop-at.at c.args.book.now = c.rest_of-rest.ensures in
    let next-is : c.next_alone-t.result ≡ next_of c.loop-at.a (drop c.loop-at.at c.args.book.now) = rw left_is at c.next_alone-t.ensures.result in
    let s = standing c.loop-at.invariant _ next-is c.if-t-after.false in
    rw left_is (omega (arith, s.least, s.inside))

pub add_kind-s-requires : goal.add_kind-s-requires
add_kind-s-requires c =
    let left_is : c.rest_of-rest.result.now ≡ drop c.loop-at.at c.args.book.now = c.rest_of-rest.ensures in
    let next-is : c.next_alone-t.result ≡ next_of c.loop-at.a (drop c.loop-at.at c.args.book.now) = rw left_is at c.next_alone-t.ensures.result in
    let l = c.loop-at in
    (l.invariant.sum, rise-next _ _ _ (standing l.invariant _ next-is c.if-t-after.false))

pub loop-at-preserved : goal.loop-at-preserved
loop-at-preserved c =
    let left_is : c.rest_of-rest.result.now ≡ drop c.loop-at.at c.args.book.now = c.rest_of-rest.ensures in
    let next-is : c.next_alone-t.result ≡ next_of c.loop-at.a (drop c.loop-at.at c.args.book.now) = rw left_is at c.next_alone-t.ensures.result in
    let l = c.loop-at in
    let e = c.add_kind-s.ensures in
    gathering-next l.invariant _ next-is c.if-t-after.false
    (rw (c.kind_of-found.ensures, left_is) at e.0) e.1 c.next_alone-t.ensures.inside.1

pub returns : goal.returns
returns c = let l = c.loop-at in
    let g = gathering-far l.invariant c.loop-at-test.false in
    record { account_value = (g.account, g.sum); account_in_range = (l.invariant.range, l.invariant.sum) }
