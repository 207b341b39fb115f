use Rattle.printing.proofs.Puts.{one}
use Rattle.printing.proofs.put_byte.Goals as goal

pub returns : goal.returns
returns c = one c.args.out.now c.args.at c.args.b c.requires
