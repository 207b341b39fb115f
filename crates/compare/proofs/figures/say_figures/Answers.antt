-- The invariant: saying the figures that are left makes all. Assumes nothing.
use native.Mathlib.Omega.{arith}
use native.Mathlib.Nat.{sub-zero}
use Rattle.printing.proofs.Texts.{◌⟫◌, says-none}
use Rattle.compare.proofs.Wordings.{one-figure, no-figure}
use Rattle.compare.proofs.figures.say_figures.Goals as goal

pub loop-f-init : goal.loop-f-init
loop-f-init c = λ end p. rw sub-zero at p

pub figure-requires : goal.figure-requires
figure-requires c = omega (arith, c.loop-f-test.true, c.requires)

pub figure-requires-in-loop-f : goal.figure-requires-in-loop-f
figure-requires-in-loop-f c = omega (arith, c.loop-f-test.true, c.requires)

pub say_figure-requires : goal.say_figure-requires
say_figure-requires c = omega (arith, c.loop-f-test.true, c.requires)

pub loop-f-preserved : goal.loop-f-preserved
loop-f-preserved c = let s = c.say_figure.ensures in
    let l = c.loop-f in
    let a = c.args in
    λ end p. l.invariant end (rw (one-figure a.n l.f a.alone a.s.now a.t.now c.loop-f-test.true)
    ((rw (c.figure.ensures, c.figure-in-loop-f.ensures) at s) ⟫ p))

pub returns : goal.returns
returns c = let l = c.loop-f in
    let a = c.args in
    l.invariant l.out (rw (no-figure a.n l.f a.alone a.s.now a.t.now c.loop-f-test.false) says-none)
