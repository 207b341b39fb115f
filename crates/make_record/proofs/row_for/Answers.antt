-- The farm record of version 2, or the kind. Assumes nothing.
use mathlib.Core.Path.{refl}
use Rattle.make_record.proofs.row_for.Goals as goal

pub returns-then-kind-count : goal.returns-then-kind-count
returns-then-kind-count c = rw c.if-kind-count.true refl

pub returns : goal.returns
returns c = rw c.if-kind-count.false refl
