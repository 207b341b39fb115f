-- The farm record of version 2, or the kind. Assumes nothing.
use mathlib.Core.Path.{refl}
use Rattle.by_row.proofs.table.row_of.Goals as goal

pub returns-then-version-kind : goal.returns-then-version-kind
returns-then-version-kind c = rw c.if-version-kind.true refl

pub returns : goal.returns
returns c = rw c.if-version-kind.false refl
