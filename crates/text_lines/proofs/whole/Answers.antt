-- The mark is dropped from the first line. Assumes nothing.
use Rattle.text_lines.proofs.Steps.{mark-dropped, as-it-is}
use Rattle.text_lines.proofs.whole.Goals as goal

pub returns-then-cut-is_marked : goal.returns-then-cut-is_marked
returns-then-cut-is_marked c =
    mark-dropped c.args.cut.number c.args.line.now c.args.cut.len c.at_most-all.ensures c.is_marked.ensures c.if-cut-is_marked.true c.behind.ensures

pub returns : goal.returns
returns c = as-it-is c.args.cut.number c.args.line.now c.args.cut.len c.at_most-all.ensures c.is_marked.ensures c.if-cut-is_marked.false
