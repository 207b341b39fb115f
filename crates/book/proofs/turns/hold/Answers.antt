use lib.Seq.{length-take-le}
use Rattle.book.proofs.turns.hold.Goals as goal

pub returns : goal.returns
returns c = rw (
  c.by_fields-same.ensures,
  c.kept-held.ensures,
  length-take-le _ _ c.requires.1,
)
