use Prim.Native.Nat.{◌+◌, ◌-◌, ◌*◌}
use mathlib.Core.Path.{◌≡◌, refl, sym, ◌∙◌}
use native.Mathlib.Omega.{arith}
use lib.ListN.{length, get_or}
use Rattle.sheet.proofs.Held.{held-small, at-end, at-other, at-digit, run_is}
use borrow.Author.Rules.{rules}
use Rattle.sheet.proofs.numbers.go_on.Goals as goal

pub loop-i-init : goal.loop-i-init
loop-i-init c = record {
  sum = c.args.v;
  inside = search rules;
  amount = held-small c.args.v c.args.v (search rules) refl;
  same = refl;
}

pub returns-then-not-is_ascii_digit : goal.returns-then-not-is_ascii_digit
returns-then-not-is_ascii_digit c = let l = c.loop-i in
    let o = l.invariant in
    let text = c.args.text.now in
    rw c.ok_or.ensures.value
    (run_is text _ o.sum l.i l.number o.inside o.amount
    (o.same ∙ at-other o.sum text l.i c.loop-i-test.true (sym c.is_ascii_digit.ensures.value ∙ c.if-not-is_ascii_digit.true)))

pub loop-i-preserved : goal.loop-i-preserved
loop-i-preserved c = let l = c.loop-i in
    let o = l.invariant in
    let text = c.args.text.now in
    let b = get_or text l.i 0 in
    record {
      sum = o.sum * 10 + (b - 48);
      inside = search rules;
      amount = c.more-number.ensures o.sum o.amount;
      same = o.same ∙ at-digit o.sum text l.i c.loop-i-test.true (sym c.is_ascii_digit.ensures.value ∙ c.if-not-is_ascii_digit.false);
    }

pub returns : goal.returns
returns c = let l = c.loop-i in
    let o = l.invariant in
    let text = c.args.text.now in
    let end : l.i ≡ length text = omega arith in
    rw (c.ok_or-2.ensures.value, ← end) (run_is text _ o.sum l.i l.number o.inside o.amount (o.same ∙ at-end o.sum text l.i c.loop-i-test.false))
