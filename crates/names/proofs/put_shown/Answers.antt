use mathlib.Core.Path.{◌≡◌, refl}
use native.Mathlib.Omega.{arith}
use native.Mathlib.Nat.{add-zero}
use lib.ListN.{length-set}
use Rattle.printing.proofs.Puts.{none}
use Rattle.names.proofs.Shown.{one_more, all_shown}
use Rattle.names.proofs.put_shown.Goals as goal

pub loop-i-preserved : goal.loop-i-preserved
loop-i-preserved c =
    let l = c.loop-i in
    let word = c.args.word.now in (
      simp length-set l.invariant.0,
      one_more word l.i c.printed.result c.printed.ensures (omega arith) (omega arith) l.invariant.1 (omega arith),
    )

pub loop-i-init : goal.loop-i-init
loop-i-init c = (refl, rw add-zero (none _ _ (omega arith)))

pub returns : goal.returns
returns c =
    let l = c.loop-i in
    let word = c.args.word.now in
    let all : l.i ≡ c.min-n.result = omega arith in
    rw all at (all_shown word l.i (omega arith) l.invariant.0 l.invariant.1)
