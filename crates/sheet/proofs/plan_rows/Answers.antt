use Prim.Native.Nat.{ℕ, suc, ◌+◌}
use mathlib.Core.Path.{refl, sym, ap, ◌∙◌}
use native.Mathlib.Omega.{arith}
use lib.ListN.{length, drop, length-drop, drop_of_length-le}
use Rattle.sheet.specs.Sheets.{each, row_item}
use Rattle.sheet.specs.Code.{total_of}
use Rattle.sheet.proofs.Plans.{in-room, total-more, sized-plain, plan-wrong, plan-more, plan-done}
use Rattle.sheet.proofs.Items.{line-length}
use borrow.Author.Rules.{rules}
use Rattle.sheet.proofs.plan_rows.Goals as goal

pub loop-i-init : goal.loop-i-init
loop-i-init c = let a = c.args in (
  search rules,
  search rules,
  record {
    sum = 0;
    fuel = suc (length (drop a.from a.text.now));
    holds = in-room a.room 0 0 (omega arith) refl;
    enough = omega arith;
    same = sized-plain (each row_item 2 (drop a.from a.text.now)) a.room;
  },
)

pub returns-in-Err : goal.returns-in-Err
returns-in-Err c = let l = c.loop-i in
    sym (plan-wrong l.invariant.2 _ (omega (arith, length-drop l.i c.args.text.now)) c.in-Err.ensures)

pub loop-i-preserved : goal.loop-i-preserved
loop-i-preserved c = let l = c.loop-i in
    let text = c.args.text.now in
    let e = c.in-Ok.ensures in
    let r = c.in-Ok.r in
    let o = l.invariant.2 in (
      e.inside,
      omega (arith, e.shorter, length-drop l.i text, length-drop r.end text),
      plan-more o _ _ c.add-total.result _ (omega (arith, length-drop l.i text)) e.line e.shorter
          (c.add-total.ensures ∙ total-more _ _ o.sum o.holds _
          ∙ ap (λ (n : ℕ). total_of c.args.room (o.sum + n)) (c.size_of_kind.ensures.value ∙ sym (line-length r.kind r.values))) refl,
    )

pub returns : goal.returns
returns c = let l = c.loop-i in
    c.with_room.ensures ∙ sym (plan-done l.invariant.2 (drop_of_length-le c.args.text.now c.loop-i-test.false))
