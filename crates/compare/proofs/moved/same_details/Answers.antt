use mathlib.Core.Path.{subst}
use borrow.Author.Rules.{rules}
use Rattle.compare.specs.InnerMoved.{Noted}
use Rattle.compare.proofs.moved.same_details.Goals as goal

pub returns-then-n-gt-RECORDS : goal.returns-then-n-gt-RECORDS
returns-then-n-gt-RECORDS c = c.counted.ensures

pub returns-then-many-m : goal.returns-then-many-m
returns-then-many-m c = c.counted-then-many-m.ensures

pub by_partners-requires : goal.by_partners-requires
by_partners-requires c = let p = c in
    let a = p.args in
    (subst (Noted a.ys.now a.n _) c.if-many-m.false p.note_places-many.ensures, search rules)

pub returns : goal.returns
returns c = c.by_partners.ensures
