-- A farm record first, any other after it under a heading that serves. Assumes nothing.
use mathlib.Core.Path.{refl}
use Rattle.account.specs.Judge.{in_place_lem}
use Rattle.rules.proofs.outside.placed.Goals as goal

pub returns-then-row : goal.returns-then-row
unfolding in_place_lem
returns-then-row c = rw c.if-row.true refl

pub serves-requires : goal.serves-requires
unfolding in_place_lem
serves-requires c = tt

pub returns : goal.returns
unfolding in_place_lem
returns c = rw (c.if-row.false, c.serves.ensures) refl
