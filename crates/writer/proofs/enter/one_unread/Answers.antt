-- Field by field. Assumes nothing.
use mathlib.Core.Path.{refl}
use Rattle.writer.proofs.enter.one_unread.Goals as goal

pub returns : goal.returns
returns c = rw (c.one_more-2.ensures, c.one_more.ensures) refl
