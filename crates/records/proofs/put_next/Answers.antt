-- The record has its rows where it is accepted. Assumes nothing.
use mathlib.Core.Path.{ap, ◌∙◌}
use native.Mathlib.Omega.{arith}
use lib.ListN.{length, length-drop}
use Rattle.records.proofs.Steps.{next-is, stops, lines-as, puts}
use Rattle.records.proofs.put_next.Goals as goal

pub returns-then-t-after : goal.returns-then-t-after
returns-then-t-after c = let c5 = c in
    let c7 = c5 in
    let c10 = c7 in
    let t = c5.next_record-t.ensures in
    let s = c10.args in
    let e = next-is s.a c7.rest_of-rest.ensures t.result in record { retypes = stops s.a s.at s.book.now _ e c.if-t-after.true s.out.now s.end (omega (arith, c10.requires.2)); written_bound = (omega arith, omega (arith, c10.requires.1), t.inside.2) }

pub put_accepted-written-requires : goal.put_accepted-written-requires
put_accepted-written-requires c = let c3 = c in
    let c8 = c3 in
    let c10 = c8 in
    let c13 = c10 in
    let l = ap length c10.rest_of-rest.ensures ∙ length-drop c13.args.at c13.args.book.now in record { account_in_range = (c13.requires.0, c8.next_record-t.ensures.result, c3.if-t-after.false); rest_bound = (omega (arith, l, c13.requires.1, c13.ranges), c13.requires.2) }

pub returns : goal.returns
returns c = let c2 = c in
    let c4 = c2 in
    let c6 = c4 in
    let c11 = c6 in
    let c13 = c11 in
    let c16 = c13 in
    let t = c11.next_record-t.ensures in
    let q = c13.rest_of-rest.ensures in
    let e = next-is c16.args.a q t.result in
    let h = c6.if-t-after.false in
    let lines = c4.first_of.ensures ∙ lines-as c16.args.a _ _ t.result h _ t.lines in
    let p = c2.put_accepted-written.ensures in
    let l = ap length q ∙ length-drop c16.args.at c16.args.book.now in record { retypes = puts c16.args.a c16.args.at c16.args.book.now _ e h q lines p.put; written_bound = (omega (arith, p.upper_bound), omega (arith, l, t.inside.0, c16.requires.1), t.inside.2) }
