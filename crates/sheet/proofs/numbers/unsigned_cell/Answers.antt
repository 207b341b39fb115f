use lib.ListN.{drop}
use Rattle.sheet.specs.Numbers.{unsigned, unsigned_cell}
use Rattle.sheet.proofs.numbers.unsigned_cell.Goals as goal

pub returns : goal.returns
unfolding unsigned_cell
returns c = let n = c.read_unsigned-n.ensures in
    record { number = c.in_field.ensures (unsigned (drop c.args.at c.args.text.now)) n.number; rest = n.rest; inside = n.inside }
