-- The line feed counts where there is one. Assumes nothing.
use borrow.Author.Tests.{lt-ltb, le-ltb}
use Rattle.text_lines.proofs.past.Goals as goal

pub returns-then-len-size : goal.returns-then-len-size
returns-then-len-size c = rw (lt-ltb _ _ c.if-len-size.true)

pub returns : goal.returns
returns c = rw (le-ltb _ _ c.if-len-size.false)
