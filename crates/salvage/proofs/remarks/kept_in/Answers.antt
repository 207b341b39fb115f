use borrow.Author.Tests.{lt-ltb, le-ltb}
use Rattle.salvage.specs.Remarks.{kept_in}
use Rattle.salvage.proofs.remarks.kept_in.Goals as goal

pub returns-then-book-lt2 : goal.returns-then-book-lt2
unfolding kept_in
returns-then-book-lt2 c = rw (lt-ltb _ _ c.if-book-lt2.true)

pub returns : goal.returns
unfolding kept_in
returns c = rw (le-ltb _ _ c.if-book-lt2.false) c.be16.ensures
