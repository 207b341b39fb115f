use mathlib.Core.Path.{◌≡◌, sym, ◌∙◌}
use native.Mathlib.Omega.{arith}
use borrow.Author.Rules.{rules}
use lib.ListN.{length}
use Rattle.book.proofs.Fronts.{length-held, length_cut}
use Rattle.book.proofs.front.length_of.Goals as goal

pub returns-then-count-ge2 : goal.returns-then-count-ge2
returns-then-count-ge2 c =
    let places : length c.args.held ≡ 27 = search rules in
    let s = c in
    c.be16.ensures ∙ sym (length-held _ _ _ c.if-count-ge2.true (omega (arith, places, s.requires.0)))

pub returns-then-count-eq1 : goal.returns-then-count-eq1
returns-then-count-eq1 c =
    let places : length c.args.held ≡ 27 = search rules in
    let s = c in
    rw c.if-count-eq1.true (c.pair.ensures ∙ sym (length_cut s.args.held s.args.rest.now (omega (arith, places))))

pub returns : goal.returns
returns c = let z : c.args.count ≡ 0 = omega arith in
    rw z c.be16-2.ensures
