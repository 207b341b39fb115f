-- The next line's number. Assumes nothing.
use Rattle.text_lines.proofs.Cut.next.Goals as goal

pub returns : goal.returns
returns c = rw c.one_more.ensures
