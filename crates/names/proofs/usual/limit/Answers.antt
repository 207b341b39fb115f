use Rattle.names.proofs.usual.limit.Goals as goal

pub returns : goal.returns
returns c = rw (c.unwrap_or.ensures, c.read_amount.ensures, c.word.ensures, c.decimals.ensures.value)
