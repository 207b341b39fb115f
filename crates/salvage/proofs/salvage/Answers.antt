use mathlib.Core.Path.{◌∙◌}
use Rattle.salvage.specs.declared.Unsaved.TheVariants.{NoFarm, NoRoom}
use Rattle.salvage.specs.Salvage.{start, found_in, book_of, list_of, refusing, saving}
use Rattle.salvage.proofs.Answers.{salvage-19, salvage-16, salvage-saved, list-is, rooms, laid_so, gets, lengths-are, still-long}
use Rattle.salvage.proofs.salvage.Goals as goal

pub returns-then-m-eq0 : goal.returns-then-m-eq0
returns-then-m-eq0 c = let m = c in
    let a = m.args in
    let g = gets a.damaged.now a.book.now a.list.now (refusing NoFarm) (salvage-19 _ _ _ _ m.measure-m.ensures c.if-m-eq0.true) in record { answer = g.0; clean = g.1.0; dropped = g.1.1; inside = tt }

pub returns-then-book-m : goal.returns-then-book-m
returns-then-book-m c = let i = c in
    let m = i in
    let a = m.args in
    let short = salvage-16 _ _ _ _ m.measure-m.ensures i.if-m-eq0.false c.if-book-m.true in
    let g = gets a.damaged.now a.book.now a.list.now (refusing NoRoom) short in record { answer = g.0; clean = g.1.0; dropped = g.1.1; inside = tt }

pub write-requires : goal.write-requires
write-requires c = let m = rooms _ _ _ _ c.measure-m.ensures c.if-book-m.false in record { damaged_in_bounds = m.0; damaged_in_bounds_2 = m.1 }

pub returns : goal.returns
returns c = let e = c in
    let w = c.write.ensures in
    let d = e.measure-m.ensures in
    let r = rooms _ _ _ _ d e.if-book-m.false in
    let a = e.args in
    let f = found_in start a.damaged.now in
    let book = book_of f.kept in
    let list = list_of f.dropped in
    let s = salvage-saved _ _ _ _ d e.if-m-eq0.false e.if-book-m.false in
    let g = gets a.damaged.now a.book.now a.list.now (saving book list) s in
    let b = still-long _ book a.book.now _ w.clean d.book r.0 in
    let n = still-long _ list a.list.now _ w.dropped (list-is _ _ d) r.1 in record { answer = lengths-are f _ d ∙ g.0; clean = w.clean ∙ laid_so book a.book.now r.0 ∙ g.1.0; dropped = w.dropped ∙ laid_so list a.list.now r.1 ∙ g.1.1; inside = (b, n) }
