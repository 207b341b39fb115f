use mathlib.Core.Path.{refl}
use Rattle.book.proofs.State.fed.Goals as goal

pub returns : goal.returns
returns c = rw (c.answered-answer.ensures, c.by_fields-same.ensures) refl
