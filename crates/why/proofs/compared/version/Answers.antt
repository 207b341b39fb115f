use Rattle.why.proofs.ValuesFound.{farm-version, other-version}
use Rattle.why.proofs.compared.version.Goals as goal

pub returns-then-r : goal.returns-then-r
returns-then-r c = farm-version _ c.be8-version.ensures c.if-r.true c.outside.ensures

pub returns : goal.returns
returns c = other-version _ c.be8-version.ensures c.if-r.false c.both.ensures
