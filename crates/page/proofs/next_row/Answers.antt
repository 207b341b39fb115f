-- Where the place is in the book and a record is accepted there. Assumes nothing.
use Rattle.std.proofs.Common.{◌≡◌, false, not, ◌||◌, ltb, length, drop, arith}
use Rattle.printing.proofs.Sayings.{said-none}
use Rattle.account.specs.Range.{account_in_range}
use Rattle.account.proofs.Clauses.{in-range-parts}
use Rattle.walk.specs.Walk.{next_of}
use Rattle.page.proofs.Pages.{goes-outside, place-stays, row_stays, inside-range, inside-bytes}
use Rattle.page.proofs.Pages.{next-stands, next-inside}
use Rattle.page.proofs.next_row.Goals as goal

pub returns-then-in_range-book : goal.returns-then-in_range-book
returns-then-in_range-book c = let a = c.args in
    let o = goes-outside a.p a.book.now (rw c.in_range.ensures at c.if-in_range-book.true) in record {
      place_value = place-stays a.p a.book.now o c.stopped.ensures.0;
      said = rw (c.stopped.ensures.1, row_stays a.p a.book.now _ o)
          (said-none (omega arith));
    }

pub next_alone-t-requires : goal.next_alone-t-requires
next_alone-t-requires c = let a = c.args in
    in-range-parts _ (inside-range _ a.p.at (length a.book.now) (rw c.in_range.ensures at
    c.if-in_range-book.false))

pub kind_of-kind-requires : goal.kind_of-kind-requires
kind_of-kind-requires c =
    let rest-is : c.rest_of-rest.result.now ≡ drop c.args.p.at c.args.book.now = c.rest_of-rest.ensures in
    let next-is : c.next_alone-t.result ≡ next_of c.args.p.account (drop c.args.p.at c.args.book.now) = rw rest-is at c.next_alone-t.ensures.result in
    let a = c.args in
    let s = next-stands a.p a.book.now _ next-is c.if-t-after.false in
    rw rest-is (omega (arith, s.least, s.inside))

pub say_row-n-requires : goal.say_row-n-requires
say_row-n-requires c =
    let inside_is : not (account_in_range c.args.p.account) || ltb (length c.args.book.now) c.args.p.at ≡ false =
    rw c.in_range.ensures at c.if-in_range-book.false in
    let a = c.args in
    in-range-parts _ (inside-range _ a.p.at (length a.book.now) inside_is)

pub moved-requires : goal.moved-requires
moved-requires c =
    let rest-is : c.rest_of-rest.result.now ≡ drop c.args.p.at c.args.book.now = c.rest_of-rest.ensures in
    let next-is : c.next_alone-t.result ≡ next_of c.args.p.account (drop c.args.p.at c.args.book.now) = rw rest-is at c.next_alone-t.ensures.result in
    let inside_is : not (account_in_range c.args.p.account) || ltb (length c.args.book.now) c.args.p.at ≡ false =
    rw c.in_range.ensures at c.if-in_range-book.false in
    let a = c.args in (
      in-range-parts _ (inside-range _ a.p.at (length a.book.now) inside_is),
      omega (
        arith,
        next-inside a.p a.book.now _ next-is c.if-t-after.false
            (inside-bytes (account_in_range a.p.account) a.p.at (length a.book.now) inside_is),
        c.well_formed,
      ),
    )
