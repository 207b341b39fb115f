use borrow.Author.Tests.{lt-ltb, le-ltb}
use Rattle.book.proofs.Fronts.{front-take}
use Rattle.book.proofs.front.front_of.Goals as goal

pub returns-then-n-lt2 : goal.returns-then-n-lt2
returns-then-n-lt2 c = let s = c in rw (front-take s.args.s.now s.args.n s.requires, lt-ltb _ _ c.if-n-lt2.true)

pub returns : goal.returns
returns c = let b = c in
    let s = b in
    rw (front-take s.args.s.now s.args.n s.requires, le-ltb _ _ b.if-n-lt2.false, ← b.be16.ensures) c.front_by.ensures
