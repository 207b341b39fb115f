-- A line of fewer than three bytes has no mark. Assumes nothing.
use Rattle.text_lines.proofs.Steps.{too_short}
use Rattle.text_lines.proofs.is_marked.Goals as goal

pub returns-then-line-lt3 : goal.returns-then-line-lt3
returns-then-line-lt3 c = too_short c.args.line.now c.if-line-lt3.true
