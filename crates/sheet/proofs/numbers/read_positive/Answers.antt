use mathlib.Core.Path.{refl}
use borrow.Author.Rules.{rules}
use Rattle.sheet.proofs.Held.{positive-low, positive-high, positive-digit}
use Rattle.sheet.proofs.numbers.read_positive.Goals as goal

pub returns-then-b-lt49 : goal.returns-then-b-lt49
returns-then-b-lt49 c = let b = c.byte-b in
    let args = c.args in
    rw (positive-low args.text.now args.at b.result b.ensures c.if-b-lt49.true)
    (record { number = refl; rest = refl; inside = search rules })

pub returns-then-b-gt57 : goal.returns-then-b-gt57
returns-then-b-gt57 c = let b = c.byte-b in
    let args = c.args in
    rw (positive-high args.text.now args.at b.result b.ensures c.if-b-gt57.true)
    (record { number = refl; rest = refl; inside = search rules })

pub returns : goal.returns
returns c = let b = c.byte-b in
    let args = c.args in
    rw (positive-digit args.text.now args.at b.result b.ensures c.if-b-lt49.false c.if-b-gt57.false)
    c.go_on.ensures
