use mathlib.Core.Path.{◌≡◌, ap}
use mathlib.Core.List.{List}
use Prim.Native.Nat.{ℕ}
use native.Mathlib.Omega.{arith}
use lib.ListN.{get_or, take}
use Rattle.account.specs.Judge.{WholeRecord, kind_byte}
use Rattle.book.proofs.RecordRuns.{record-whole}
use Rattle.walk.proofs.Walks.{Stands, stands, next-ready}
use Rattle.salvage.proofs.OneTurn.{code-told}
use Rattle.salvage.proofs.Reading.see.Goals as goal

pub returns-then-n-eq0 : goal.returns-then-n-eq0
returns-then-n-eq0 c = let n = c in
    let s = c in
    record {
      ready = rw c.if-n-eq0.true at (next-ready _ _ _ n.next_alone-t.ensures.result s.requires.early);
      inside = omega arith;
      kind = λ h. absurd (omega arith);
      code = λ h. absurd (omega arith);
      account = λ h. absurd (omega arith);
    }

pub bounds-r-3 : goal.bounds-r-3
bounds-r-3 c =
    let place : let s = c in
    Stands s.args.self.account s.args.xs.now c.next_alone-t.result = stands _ _ _ c.next_alone-t.ensures.result c.if-n-eq0.false in
    let whole-so : WholeRecord c.first_of-r.result.now = let s = place in rw c.first_of-r.ensures (record-whole _ _ s.front s.size) in
    let w = whole-so in omega (arith, w.long, w.low)

pub returns : goal.returns
returns c =
    let place : let s = c in
    Stands s.args.self.account s.args.xs.now c.next_alone-t.result = stands _ _ _ c.next_alone-t.ensures.result c.if-n-eq0.false in
    let kind-so : get_or c.first_of-r.result.now 3 0 ≡ kind_byte (take c.next_alone-t.result.size
    c.args.xs.now) = ap (λ (l : List ℕ). get_or l 3 0) c.first_of-r.ensures in
    let f = c in
    let e = f in
    let s = e in
    record {
      ready = next-ready _ _ _ e.next_alone-t.ensures.result s.requires.early;
      inside = e.next_alone-t.ensures.inside.0;
      kind = λ h. kind-so;
      code = λ h. code-told _ _ _ _ (kind-so) e.next_alone-t.result.account s.requires (place).account c.dropped_by-code.ensures;
      account = λ h. (place).account;
    }
