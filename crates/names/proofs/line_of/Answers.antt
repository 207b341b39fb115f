use Rattle.names.proofs.line_of.Goals as goal

pub returns : goal.returns
returns c = rw c.min.ensures at c.part.ensures
