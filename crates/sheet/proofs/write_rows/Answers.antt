use Prim.Native.Nat.{◌<◌}
use native.Mathlib.Omega.{arith}
use lib.ListN.{length, drop, length-drop, drop_of_length-le}
use Rattle.sheet.specs.Code.{IsLine}
use Rattle.sheet.proofs.Items.{line-ok, line-piece}
use Rattle.sheet.proofs.Writing.{next-item, run_room, run_on, run-done}
use Rattle.sheet.proofs.write_rows.Goals as goal

pub unwrap-r-requires : goal.unwrap-r-requires
unwrap-r-requires c = let l = c.loop-i in
    let text = c.args.text.now in
    let h : 0 < length (drop l.i text) = omega (arith, length-drop l.i text) in
    line-ok text (drop l.i text) _ _ c.line_row.result c.line_row.ensures (next-item l.invariant.1 h).first

pub put_line-at-requires : goal.put_line-at-requires
put_line-at-requires c = let l = c.loop-i in
    let text = c.args.text.now in
    let line : IsLine text (drop l.i text) c.unwrap-r.result = rw c.unwrap-r.ensures at c.line_row.ensures in
    let h : 0 < length (drop l.i text) = omega (arith, length-drop l.i text) in
    run_room l.invariant.1 h _ (line-piece line (next-item l.invariant.1 h).first).0

pub loop-i-preserved : goal.loop-i-preserved
loop-i-preserved c = let l = c.loop-i in
    let text = c.args.text.now in
    let line : IsLine text (drop l.i text) c.unwrap-r.result = rw c.unwrap-r.ensures at c.line_row.ensures in
    let h : 0 < length (drop l.i text) = omega (arith, length-drop l.i text) in
    let e = line-piece line (next-item l.invariant.1 h).first in
    (line.inside, run_on l.invariant.1 h e.0 e.1 c.put_line-at.ensures)

pub returns : goal.returns
returns c = run-done c.loop-i.invariant.1 (drop_of_length-le c.args.text.now c.loop-i-test.false)
