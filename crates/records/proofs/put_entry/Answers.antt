-- By whether the lines begin with a subtotal. Assumes nothing.
use Prim.Native.Nat.{ℕ}
use mathlib.Core.List.{List}
use native.Mathlib.Omega.{arith}
use Rattle.printing.proofs.Puts.{and-then}
use Rattle.records.specs.Table.{Row, row_with}
use Rattle.records.proofs.Texts.{put_as, entry-none, entry-some}
use Rattle.records.proofs.put_entry.Goals as goal

pub returns-then-n-eq0 : goal.returns-then-n-eq0
returns-then-n-eq0 c = let c2 = c in
    let c4 = c2 in
    let c5 = c4 in
    let c6 = c5 in
    let c10 = c6 in
    let x = c10.args.x in
    let typed = c10.args.typed.now in
    let row : List ℕ → Row = λ l. row_with x.number x.first x.last x.row x.group typed l in
    let e = c2.put_own.ensures in record {
      put = put_as (entry-none c10.args.lines.now row
          c6.subtotal_size-n.ensures.value c4.if-n-eq0.true c5.rest_of-own.ensures) e.put;
      upper_bound = omega (arith, e.upper_bound);
    }

pub returns : goal.returns
returns c = let c2 = c in
    let c6 = c2 in
    let c7 = c6 in
    let c9 = c7 in
    let c10 = c9 in
    let c11 = c10 in
    let c15 = c11 in
    let x = c15.args.x in
    let typed = c15.args.typed.now in
    let row : List ℕ → Row = λ l. row_with x.number x.first x.last x.row x.group typed l in
    let e = c2.put_own-2.ensures in
    let s = c6.put_subtotal-end.ensures in record {
      put = put_as (entry-some c15.args.lines.now row
          c11.subtotal_size-n.ensures.value c9.if-n-eq0.false c10.rest_of-own.ensures c7.first_of.ensures) (and-then s.put e.put);
      upper_bound = omega (arith, e.upper_bound, s.upper_bound);
    }
