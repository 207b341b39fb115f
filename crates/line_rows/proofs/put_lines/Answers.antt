use Prim.Native.Nat.{◌+◌, ◌≤◌}
use mathlib.Core.Path.{refl, ap}
use native.Mathlib.Omega.{arith}
use lib.ListN.{length, drop, length-drop}
use Rattle.line_rows.proofs.Texts.{size-least, putting-none, putting-ends, putting-on}
use Rattle.line_rows.proofs.put_lines.Goals as goal

pub loop-i-init : goal.loop-i-init
loop-i-init c = putting-none _ _ _ c.requires

pub returns-then-rest-lt-LINE_SIZE : goal.returns-then-rest-lt-LINE_SIZE
returns-then-rest-lt-LINE_SIZE c =
    putting-ends c.loop-i.invariant c.rest_of-rest.ensures (omega (arith, size-least c.rest_of-rest.result.now))

pub returns-then-rest-n : goal.returns-then-rest-n
returns-then-rest-n c = putting-ends c.loop-i.invariant c.rest_of-rest.ensures (omega (arith, c.front_size-n.ensures))

pub put_line-at-requires : goal.put_line-at-requires
put_line-at-requires c =
    let l = c.loop-i in
    let d = length-drop l.i c.args.lines.now in
    let e = ap length c.rest_of-rest.ensures in
    record {
      line_size_in_bounds = (omega arith, omega (arith, c.front_size-n.ensures));
      s_in_bounds = omega (arith, c.front_size-n.ensures, e, l.invariant.room, l.invariant.inside);
    }

-- the line ends within the lines
pub overflow_add-i : goal.overflow_add-i
overflow_add-i c =
    let l = c.loop-i in
    omega (arith, ap length c.rest_of-rest.ensures, length-drop l.i c.args.lines.now, l.invariant.inside)

pub loop-i-smaller : goal.loop-i-smaller
loop-i-smaller c =
    let l = c.loop-i in
    let ahead : l.i + c.front_size-n.result ≤ length c.args.lines.now =
    omega (arith, ap length c.rest_of-rest.ensures, length-drop l.i c.args.lines.now, l.invariant.inside) in
    omega (arith, ahead, c.front_size-n.ensures, size-least c.rest_of-rest.result.now)

pub loop-i-preserved : goal.loop-i-preserved
loop-i-preserved c =
    putting-on c.loop-i.invariant c.rest_of-rest.ensures c.front_size-n.ensures (omega arith) c.put_line-at.ensures.put
    c.put_line-at.ensures.upper_bound

pub returns : goal.returns
returns c =
    let l = c.loop-i in
    let lines = c.args.lines.now in
    putting-ends l.invariant refl (omega (arith, length-drop l.i lines, size-least (drop l.i lines)))
