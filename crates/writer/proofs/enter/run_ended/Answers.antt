-- Where a run is open. Assumes nothing.
use mathlib.Core.Path.{refl}
use Rattle.writer.specs.Typist.{run_ended}
use Rattle.writer.proofs.enter.run_ended.Goals as goal

pub returns-in-None : goal.returns-in-None
unfolding run_ended
returns-in-None c = rw c.in-None.is refl

pub returns-in-Some : goal.returns-in-Some
unfolding run_ended
returns-in-Some c = rw (c.in-Some.is, c.one_told-told.ensures) refl
