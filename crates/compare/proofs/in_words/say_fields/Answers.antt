-- The invariant: saying the fields that are left makes all. Assumes nothing.
use native.Mathlib.Nat.{sub-zero}
use Rattle.printing.proofs.Texts.{◌⟫◌, says-none}
use Rattle.compare.proofs.Wordings.{one_value, no_value}
use Rattle.compare.proofs.in_words.say_fields.Goals as goal

pub loop-i-init : goal.loop-i-init
loop-i-init c = λ end p. rw sub-zero at p

pub loop-i-preserved : goal.loop-i-preserved
loop-i-preserved c = let l = c.loop-i in
    let a = c.args in
    λ end p. l.invariant end (rw (one_value a.n l.i l.any a.alone a.row a.vs a.ws c.loop-i-test.true) (c.say_next.ensures ⟫ p))

pub returns : goal.returns
returns c = let l = c.loop-i in
    let a = c.args in
    l.invariant l.out (rw (no_value a.n l.i l.any a.alone a.row a.vs a.ws c.loop-i-test.false) says-none)
