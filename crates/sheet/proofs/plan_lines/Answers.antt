use Prim.Native.Nat.{◌+◌, ◌≤◌}
use mathlib.Core.Bool.{true}
use mathlib.Core.Path.{◌≡◌, sym, ◌∙◌}
use native.Mathlib.Omega.{arith}
use lib.ListN.{length, drop_of_length-le}
use Rattle.line_bytes.specs.Lines.{is_line}
use Rattle.sheet.proofs.Plans.{plan-done}
use Rattle.sheet.proofs.Exporting.{long-enough, line-ahead, going, going-wrong, going_on}
use Rattle.sheet.proofs.plan_lines.Goals as goal

pub returns-then-not-is_line : goal.returns-then-not-is_line
returns-then-not-is_line c k e = let t = c.is_line in
    let r = c.rest_of-rest in
    let l = c.loop-i in
    let lines = c.args.lines.now in
    sym (going-wrong lines l.i (l.invariant.1 k e) c.loop-i-test.true r.result.now r.ensures
    (sym t.ensures ∙ c.if-not-is_line.true))

pub loop-i-preserved : goal.loop-i-preserved
loop-i-preserved c =
    let passed : is_line c.rest_of-rest.result.now ≡ true = let t = c.is_line in sym t.ensures ∙ c.if-not-is_line.false in
    let ahead : c.loop-i.i + c.front_size-i.result ≤ length
    c.args.lines.now = let r = c.rest_of-rest in
    let l = c.loop-i in
    let lines = c.args.lines.now in
    line-ahead lines l.i r.result.now c.front_size-i.result r.ensures (passed) c.front_size-i.ensures
    l.invariant.0 in
    let r = c.rest_of-rest in
    let test = c.loop-i-test in
    let l = c.loop-i in
    let lines = c.args.lines.now in (
      ahead,
      λ k e.
          going_on lines l.i (l.invariant.1 k e) test.true r.result.now c.front_size-i.result c.row_size.result
          c.add-total.result
          r.ensures (passed) c.front_size-i.ensures c.row_size.ensures c.add-total.ensures,
    )

pub loop-i-init : goal.loop-i-init
loop-i-init c = let a = c.args in (omega arith, λ k e. going a.lines.now a.room k a.start e)

pub front_size-i-requires : goal.front_size-i-requires
front_size-i-requires c =
    let passed : is_line c.rest_of-rest.result.now ≡ true = let t = c.is_line in sym t.ensures ∙ c.if-not-is_line.false in
    long-enough c.rest_of-rest.result.now (passed)

pub returns : goal.returns
returns c k e = let l = c.loop-i in
    c.with_room.ensures ∙ sym (plan-done (l.invariant.1 k e).plan (drop_of_length-le c.args.lines.now c.loop-i-test.false))
