use Rattle.names.proofs.FirstBytes.{same-start}
use Rattle.names.proofs.hints.begins_with.Goals as goal

pub returns : goal.returns
returns c = rw same-start at c.starts_with.ensures.value
