-- The walk goes through the book: what is read are accepted records. Assumes nothing.
use Prim.Native.Nat.{ℕ, ◌+◌, ◌≤◌}
use mathlib.Core.Path.{◌≡◌, refl, ap, ◌∙◌}
use mathlib.Core.List.{List}
use native.Mathlib.Omega.{arith}
use lib.ListN.{length, take, drop, length-drop}
use lib.Seq.{length-take-le}
use Rattle.account.specs.Judge.{WholeRecord}
use Rattle.book.specs.Front.{front}
use Rattle.walk.specs.Walk.{next_of}
use Rattle.book.proofs.RecordRuns.{record-whole}
use Rattle.walk.proofs.Walks.{Stands, stands, none-whole}
use Rattle.why.specs.Inner.{unread}
use Rattle.why.proofs.Faults.{faulty-told}
use Rattle.why.proofs.Ways.{way-none, way_next, ended-next, stage-next, why-unread, why-none}
use Rattle.why.proofs.why.Goals as goal

pub loop-at-init : goal.loop-at-init
loop-at-init c = rw c.new-a.ensures (way-none _)

pub unread-requires : goal.unread-requires
unread-requires c =
    let left_is : c.rest_of-rest.result.now ≡ drop c.loop-at.at c.args.book.now = c.rest_of-rest.ensures in
    let next-is : c.next_alone-t.result ≡ next_of c.loop-at.a (drop c.loop-at.at c.args.book.now) = rw left_is at c.next_alone-t.ensures.result in
    let left-long : c.loop-at.at + length c.rest_of-rest.result.now ≤ 18446744073709551615 =
    omega (arith, ap (λ (z : List ℕ). length z) left_is, length-drop c.loop-at.at c.args.book.now, c.loop-at.invariant.within, c.well_formed) in
    (rw left_is (none-whole _ _ _ next-is c.if-n-eq0.true c.loop-at.invariant.early), left-long)

pub returns-then-n-eq0 : goal.returns-then-n-eq0
returns-then-n-eq0 c =
    let left_is : c.rest_of-rest.result.now ≡ drop c.loop-at.at c.args.book.now = c.rest_of-rest.ensures in
    let next-is : c.next_alone-t.result ≡ next_of c.loop-at.a (drop c.loop-at.at c.args.book.now) = rw left_is at c.next_alone-t.ensures.result in
    let l = c.loop-at in
    c.unread.ensures
    ∙ ap (λ (z : List ℕ). unread (front z) l.a l.at z) left_is
    ∙ why-unread l.invariant (front (drop c.loop-at.at c.args.book.now)) refl (none-whole _ _ _ next-is c.if-n-eq0.true l.invariant.early)

pub ended-requires : goal.ended-requires
ended-requires c =
    let left_is : c.rest_of-rest.result.now ≡ drop c.loop-at.at c.args.book.now = c.rest_of-rest.ensures in
    let next-is : c.next_alone-t.result ≡ next_of c.loop-at.a (drop c.loop-at.at c.args.book.now) = rw left_is at c.next_alone-t.ensures.result in
    let left-long : c.loop-at.at + length c.rest_of-rest.result.now ≤ 18446744073709551615 =
    omega (arith, ap (λ (z : List ℕ). length z) left_is, length-drop c.loop-at.at c.args.book.now, c.loop-at.invariant.within, c.well_formed) in
    let s : Stands c.loop-at.a (drop c.loop-at.at c.args.book.now) c.next_alone-t.result = stands _ _ _ next-is c.if-n-eq0.false in
    let bytes-are : c.first_of-r.result.now ≡ take c.next_alone-t.result.size (drop c.loop-at.at c.args.book.now) =
    c.first_of-r.ensures ∙ ap (λ (l : List ℕ). take c.next_alone-t.result.size l) left_is in
    let bytes-long : c.loop-at.at + length c.first_of-r.result.now ≤ 18446744073709551615 =
    let i = c.next_alone-t.ensures.inside.0 in
    omega (
      arith,
      ap (λ (z : List ℕ). length z) c.first_of-r.ensures,
      length-take-le c.next_alone-t.result.size c.rest_of-rest.result.now i,
      i,
      left-long,
    ) in
    let whole-so : WholeRecord (take c.next_alone-t.result.size (drop c.loop-at.at c.args.book.now)) = record-whole _ _ s.front s.size in
    let l = c.loop-at in record {
      faulty = faulty-told s.account bytes-are whole-so l.invariant.early;
      le_stage = (c.if-next-ge2.true, stage-next l.invariant _ s.front s.size s.account, bytes-long);
    }

pub returns-then-next-ge2 : goal.returns-then-next-ge2
returns-then-next-ge2 c =
    let left_is : c.rest_of-rest.result.now ≡ drop c.loop-at.at c.args.book.now = c.rest_of-rest.ensures in
    let next-is : c.next_alone-t.result ≡ next_of c.loop-at.a (drop c.loop-at.at c.args.book.now) = rw left_is at c.next_alone-t.ensures.result in
    let s : Stands c.loop-at.a (drop c.loop-at.at c.args.book.now) c.next_alone-t.result = stands _ _ _ next-is c.if-n-eq0.false in
    let bytes-are : c.first_of-r.result.now ≡ take c.next_alone-t.result.size (drop c.loop-at.at c.args.book.now) =
    c.first_of-r.ensures ∙ ap (λ (l : List ℕ). take c.next_alone-t.result.size l) left_is in
    c.ended.ensures ∙ ended-next c.loop-at.invariant _ s.front s.size s.account bytes-are c.if-next-ge2.true

pub loop-at-preserved : goal.loop-at-preserved
loop-at-preserved c =
    let left_is : c.rest_of-rest.result.now ≡ drop c.loop-at.at c.args.book.now = c.rest_of-rest.ensures in
    let next-is : c.next_alone-t.result ≡ next_of c.loop-at.a (drop c.loop-at.at c.args.book.now) = rw left_is at c.next_alone-t.ensures.result in
    let s : Stands c.loop-at.a (drop c.loop-at.at c.args.book.now) c.next_alone-t.result = stands _ _ _ next-is c.if-n-eq0.false in
    way_next c.loop-at.invariant _ s.front s.size s.account c.if-next-ge2.false

pub returns : goal.returns
returns c = why-none c.loop-at.invariant c.loop-at-test.false
