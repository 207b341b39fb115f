-- The invariant: saying what is left makes all that is said. Assumes nothing.
use Prim.Native.Nat.{◌-◌}
use mathlib.Core.Path.{◌≡◌}
use native.Mathlib.Omega.{arith}
use Rattle.codec.proofs.Rows.{fields-few}
use Rattle.printing.proofs.Texts.{◌⟫◌, says-none}
use Rattle.writer.proofs.Unusuals.{one-said, none_said}
use borrow.Author.Rules.{rules}
use Rattle.writer.proofs.unusual.say_unusual.Goals as goal

pub loop-i-init : goal.loop-i-init
loop-i-init c = λ end p. let e : c.values_of-n.result - 0 ≡ c.values_of-n.result = omega arith in rw e at p

pub say_one-requires : goal.say_one-requires
say_one-requires c = (search rules, omega (arith, c.values_of-n.ensures, fields-few c.args.e.kind))

pub is_unusual-requires : goal.is_unusual-requires
is_unusual-requires c = (search rules, omega (arith, c.values_of-n.ensures, fields-few c.args.e.kind))

pub loop-i-preserved : goal.loop-i-preserved
loop-i-preserved c =
    let l = c.loop-i in
    λ end p. l.invariant end
    (rw (one-said c.values_of-n.result l.i c.who_for-who.result c.args.e l.count c.args.number (omega arith))
    (c.say_one.ensures ⟫ rw (c.more_if-count.ensures, c.is_unusual.ensures) at p))

pub returns : goal.returns
returns c =
    let l = c.loop-i in
    let n = c.values_of-n in
    let who = c.who_for-who in
    rw (← n.ensures, ← who.ensures)
    (l.invariant l.out (rw (none_said n.result l.i who.result c.args.e l.count c.args.number (omega arith)) says-none))
