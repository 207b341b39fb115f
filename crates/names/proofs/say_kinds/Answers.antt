-- One name behind another. Assumes nothing.
use native.Mathlib.Omega.{arith}
use Rattle.printing.proofs.Texts.{◌⟫◌, says-none}
use Rattle.names.specs.Names.{kind_names}
use Rattle.names.proofs.Lines.{names-one, names-none}
use Rattle.names.proofs.say_kinds.Goals as goal

pub loop-kind-init : goal.loop-kind-init
unfolding kind_names
loop-kind-init c = λ end p. p

pub loop-kind-preserved : goal.loop-kind-preserved
unfolding kind_names
loop-kind-preserved c = λ end p. c.loop-kind.invariant end (rw (names-one c.loop-kind.kind (omega arith)) (c.say_next.ensures ⟫ p))

pub returns : goal.returns
unfolding kind_names
returns c = c.say_kind.ensures ⟫ c.loop-kind.invariant _ (rw (names-none c.loop-kind.kind c.loop-kind-test.false) says-none)
