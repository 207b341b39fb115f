use Rattle.writer.proofs.lines.is_number.Goals as goal

pub returns : goal.returns
returns c = rw (c.is_some.ensures, c.read_amount.ensures)
