-- Where a close waits. Assumes nothing.
use mathlib.Core.Path.{refl}
use Rattle.writer.specs.Typist.{early}
use Rattle.writer.proofs.enter.early.Goals as goal

pub returns-in-None : goal.returns-in-None
unfolding early
returns-in-None c = rw c.in-None.is refl

pub returns-in-Some : goal.returns-in-Some
unfolding early
returns-in-Some c = rw (c.in-Some.is, c.unwrap_or.ensures, c.one_told-told.ensures) refl
