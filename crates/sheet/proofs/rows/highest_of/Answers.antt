-- By the sign. Assumes nothing.
use mathlib.Core.Path.{refl}
use Rattle.sheet.specs.Rows.{highest_of}
use Rattle.sheet.proofs.rows.highest_of.Goals as goal

pub returns-then-signed : goal.returns-then-signed
unfolding highest_of
returns-then-signed c = rw c.if-signed.true refl

pub returns : goal.returns
unfolding highest_of
returns c = rw c.if-signed.false c.highest_in.ensures
