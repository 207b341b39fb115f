use mathlib.Core.Path.{refl}
use Rattle.book.proofs.front.bad_length.Goals as goal

pub returns : goal.returns
returns c = refl
