-- The last word, or nothing. Assumes nothing.
use native.Mathlib.Omega.{arith}
use borrow.Author.Tests.{leb-true}
use mathlib.Core.Bool.{◌&&◌}
use Rattle.base.proofs.Tests.{and_r}
use Rattle.printing.proofs.Puts.{none}
use Rattle.last_word.proofs.put_last.Goals as goal

pub put_end-requires : goal.put_end-requires
put_end-requires c = leb-true 72 _ (and_r (c.args.read && c.args.written) _ c.if-read-written.true)

pub returns-then-read-written : goal.returns-then-read-written
returns-then-read-written c = rw c.if-read-written.true c.put_end.ensures

pub returns : goal.returns
returns c = rw c.if-read-written.false (none _ _ (omega arith))
