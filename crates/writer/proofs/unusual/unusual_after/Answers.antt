-- The invariant: counting the fields that are left makes the whole count. Assumes nothing.
use Prim.Native.Nat.{◌-◌}
use mathlib.Core.Path.{◌≡◌, refl, sym, ◌∙◌}
use native.Mathlib.Omega.{arith}
use Rattle.codec.proofs.Rows.{fields-few}
use Rattle.writer.proofs.Unusuals.{one_field, no_field}
use borrow.Author.Rules.{rules}
use Rattle.writer.proofs.unusual.unusual_after.Goals as goal

pub loop-i-init : goal.loop-i-init
loop-i-init c = let e : c.values_of-n.result - 0 ≡ c.values_of-n.result = omega arith in rw e refl

pub is_unusual-requires : goal.is_unusual-requires
is_unusual-requires c = let n = c.values_of-n in
    (search rules, omega (arith, n.ensures, fields-few c.args.e.kind))

pub loop-i-preserved : goal.loop-i-preserved
loop-i-preserved c = let l = c.loop-i in
    rw (c.more_if-count.ensures, c.is_unusual.ensures) (sym (one_field _ l.i _ _ l.count (omega arith)) ∙ l.invariant)

pub returns : goal.returns
returns c = let l = c.loop-i in
    sym (no_field _ l.i _ _ l.count (omega arith)) ∙ l.invariant
    ∙ rw (c.values_of-n.ensures, c.who_for-who.ensures) refl
