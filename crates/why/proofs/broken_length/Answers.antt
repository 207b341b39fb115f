use Rattle.why.proofs.ValuesFound.{broken-told}
use Rattle.why.proofs.broken_length.Goals as goal

pub returns : goal.returns
returns c = broken-told _ _ _ c.requires.0 c.be16-n.ensures c.outside-numbers.ensures
